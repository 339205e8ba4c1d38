use Rattle.std.proofs.Common.{◌≤◌, ◌++◌, ℕ, List, IfOk, length}
use Rattle.std.specs.List.{All}
use Rattle.vrp_partition.specs.Branching.{IsEnd, IsSearched, NodeState}
use Rattle.vrp_partition.specs.declared.route.Route.{Route}
use Rattle.vrp_partition.proofs.search.Search.absorb_all.Given as goal

-- what is left of the nodes
abbrev pub invariant-loop-node : goal.invariant-loop-node
invariant-loop-node g l = record {
  falls : l.self.cost ≤ l.fn.self.cost;
  left : (customers trucks fewest limit : ℕ) → All (λ (n : NodeState). IfOk n.end (IsEnd n.pool customers trucks fewest limit)) l.fn.nodes.items → All (λ (n : NodeState). IfOk n.end (IsEnd n.pool customers trucks fewest limit)) l.nodes.items;
  searched : (pool : List Route) (customers trucks fewest incumbent limit : ℕ) → l.fn.self.cost ≤ limit → All (λ (n : NodeState). IfOk n.end (IsEnd n.pool customers trucks fewest limit)) l.fn.nodes.items
      → IsSearched pool customers trucks fewest incumbent l.fn.self (l.fn.self.open_nodes ++ l.fn.nodes.items) → IsSearched pool customers trucks fewest incumbent l.self (l.self.open_nodes ++ l.nodes.items);
}

abbrev pub decreases-loop-node : goal.decreases-loop-node
decreases-loop-node g l = length l.nodes.items
