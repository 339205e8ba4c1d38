use Rattle.std.proofs.Common.{◌≤◌}
use Rattle.vrp_bound.specs.Inner.CompletionCells.{IsLeastCell, mark}
use Rattle.vrp_bound.specs.Inner.Units.{in_units}
use Rattle.vrp_bound.specs.NgWalks.{nothing_near}
use Rattle.vrp_bound.proofs.FirstStep.{IsStep}
use Rattle.vrp_bound.proofs.LeastOfCosts.{IsCostBelow}
use Rattle.vrp_bound.proofs.walks.least_walk.Given as goal

abbrev pub invariant-loop-customer : goal.invariant-loop-customer
invariant-loop-customer l = record {
  least : IsLeastCell (IsCostBelow (IsStep (in_units l.scope.unit l.scope.instance.now) nothing_near l.scope.customers.now l.at l.load) l.customer-index) l.least;
  within : l.least ≤ mark;
}
