use Rattle.std.proofs.Common.{◌≡◌, ◌≤◌, ◌<◌, ◌+◌, ℕ, get_or, length}
use Rattle.vrp_bound_prices.specs.Units.{units_of}
use Rattle.vrp_model.specs.Problem.{demand_of}
use Rattle.vrp_priced_routes.proofs.units.unit_demands.Given as goal

abbrev pub invariant-loop-index : goal.invariant-loop-index
invariant-loop-index l = record {
  long : length l.demands.items ≡ l.index + 1;
  each : (k : ℕ) → k < length l.demands.items → 1 ≤ k → (1 ≤ get_or l.demands.items k 0) × (get_or l.demands.items k 0 ≤ units_of l.unit (demand_of l.instance k));
}
