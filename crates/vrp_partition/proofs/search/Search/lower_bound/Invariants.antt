use Rattle.std.proofs.Common.{◌≤◌, take}
use Rattle.std.specs.List.{All}
use Rattle.vrp_partition.specs.Branching.{NodeState}
use Rattle.vrp_partition.proofs.search.Search.lower_bound.Given as goal

abbrev pub invariant-loop-index : goal.invariant-loop-index
invariant-loop-index g l = record {
  most : l.least ≤ l.self-inside.best.cost;
  all : All (λ (n : NodeState). l.least ≤ n.lower_bound) (take l.index l.self-inside.open_nodes.items);
}
