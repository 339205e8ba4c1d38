use Rattle.std.proofs.Common.{◌≡◌, ◌≤◌, take}
use Rattle.std.specs.List.{sum_by}
use Rattle.vrp_model.specs.Problem.{customers}
use Rattle.vrp_bound_prices.specs.Units.{light_one}
use Rattle.vrp_bound_prices.proofs.amounts.light_customers.Given as goal

abbrev pub invariant-loop-index : goal.invariant-loop-index
invariant-loop-index l = record {
  counted : l.light ≡ sum_by (light_one l.instance l.unit) (take l.index (customers l.instance));
  few : l.light ≤ l.index;
}
