use Rattle.std.proofs.Common.{◌≤◌}
use Rattle.vrp_partition.specs.Branching.{IsSearched}
use Rattle.vrp_partition.proofs.search.cheapest_choice.Given as goal

abbrev pub invariant-loop-budget : goal.invariant-loop-budget
invariant-loop-budget g l = record {
  most : l.budget ≤ l.fn.budget;
  searched : IsSearched l.fn.pool.items l.task.customers l.task.fleet.trucks l.task.least_routes l.task.incumbent l.search l.search.open_nodes;
}

abbrev pub decreases-loop-budget : goal.decreases-loop-budget
decreases-loop-budget g l = l.budget
