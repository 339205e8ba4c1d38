use Rattle.std.proofs.Common.{◌≡◌, ℕ, ◌<◌, ◌≤◌, length, get_or}
use Rattle.vrp_bound.specs.Inner.CompletionCells.{IsLeastCell, mark}
use Rattle.vrp_bound.proofs.LeastOfCosts.{IsCostBelow}
use Rattle.vrp_model.specs.Near.{near_in}
use Rattle.vrp_bound.proofs.NgSteps.{IsNgStep}
use Rattle.vrp_bound.specs.Inner.Scaled.{scaled}
use Rattle.vrp_bound.proofs.ng_walks.fill_row.Given as goal

abbrev pub invariant-loop-customer : goal.invariant-loop-customer
invariant-loop-customer l = record {
  len : length l.row ≡ l.scope.masks;
  least : (m : ℕ) → m < l.scope.masks → IsLeastCell (IsCostBelow (IsNgStep (scaled l.scope.units) (near_in l.scope.ng_sets.now) l.scope.units.customers.now l.at l.load m) l.customer-index) (get_or l.row m 0);
  within : (m : ℕ) → get_or l.row m 0 ≤ mark;
}
