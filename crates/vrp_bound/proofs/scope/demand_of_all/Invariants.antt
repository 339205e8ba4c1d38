use Rattle.std.proofs.Common.{◌≡◌, ◌≤◌, ◌*◌, take}
use Rattle.vrp_model.specs.Route.{load_of}
use Rattle.vrp_bound.proofs.scope.demand_of_all.Given as goal

abbrev pub invariant-loop-customer : goal.invariant-loop-customer
invariant-loop-customer l = record {
  value : l.demand ≡ load_of l.scope.instance.now (take l.customer-index l.scope.customers.now);
  small : l.demand ≤ 1000000000 * l.customer-index;
}
