use Rattle.std.proofs.Common.{ℕ, ◌<◌, get_or}
use Rattle.std.specs.Int.{◌∣◌}
use Rattle.vrp_model.specs.Problem.{demand_of}
use Rattle.vrp_bound.proofs.units.unit_of.Given as goal

abbrev pub invariant-loop-customer : goal.invariant-loop-customer
invariant-loop-customer l = record {
  divides : (k : ℕ) → k < l.customer-index → l.unit ∣ demand_of l.scope.instance.now (get_or l.scope.customers.now k 0);
  divided : (other : ℕ) → ((k : ℕ) → k < l.customer-index → other ∣ demand_of l.scope.instance.now (get_or l.scope.customers.now k 0)) → other ∣ l.unit;
}
