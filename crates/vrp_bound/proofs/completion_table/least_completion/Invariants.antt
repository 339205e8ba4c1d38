use Rattle.std.proofs.Common.{◌≤◌}
use Rattle.vrp_bound.specs.Inner.CompletionCells.{IsLeastCell, mark}
use Rattle.vrp_bound.specs.Inner.Scaled.{near_by}
use Rattle.vrp_bound.specs.Inner.Units.{in_units}
use Rattle.vrp_bound.proofs.FirstTour.{IsCompletionWith}
use Rattle.vrp_bound.proofs.LeastOfCosts.{IsCostBelow}
use Rattle.vrp_bound.proofs.completion_table.least_completion.Given as goal

abbrev pub invariant-loop-home : goal.invariant-loop-home
invariant-loop-home l = record {
  least : IsLeastCell (IsCostBelow (IsCompletionWith (in_units l.scope.unit l.scope.instance.now) (near_by l.scope) l.scope.customers.now l.at l.rest) l.home) l.least;
  within : l.least ≤ mark;
}
