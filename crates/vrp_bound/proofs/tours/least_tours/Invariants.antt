use Rattle.std.proofs.Common.{◌≤◌}
use Rattle.vrp_bound.specs.Inner.CompletionCells.{IsLeastCell, mark}
use Rattle.vrp_bound.specs.Inner.Scaled.{near_by}
use Rattle.vrp_bound.specs.Inner.Units.{in_units}
use Rattle.vrp_bound.proofs.FirstTour.{IsFirstTour}
use Rattle.vrp_bound.proofs.LeastOfCosts.{IsCostBelow}
use Rattle.vrp_bound.proofs.tours.least_tours.Given as goal

abbrev pub invariant-loop-load : goal.invariant-loop-load
invariant-loop-load l = record {
  least : IsLeastCell (IsCostBelow (IsFirstTour (in_units l.scope.unit l.scope.instance.now) (near_by l.scope) l.scope.customers.now l.rest) l.load) l.least;
  within : l.least ≤ mark;
}
