use Rattle.std.proofs.Common.{◌≡◌, ◌≤◌, ◌*◌, take}
use Rattle.std.specs.List.{sum_by}
use Rattle.vrp_model.specs.Problem.{customers}
use Rattle.vrp_bound_prices.proofs.MarkedCustomers.{marked_demand}
use Rattle.vrp_bound_prices.proofs.cut.trucks_for.Given as goal

abbrev pub invariant-loop-index : goal.invariant-loop-index
invariant-loop-index l = record {
  summed : l.load ≡ sum_by (marked_demand l.instance l.inside) (take l.index (customers l.instance));
  small : l.load ≤ 1000000000 * l.index;
}
