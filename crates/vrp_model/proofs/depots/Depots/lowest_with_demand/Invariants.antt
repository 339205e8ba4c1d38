use Rattle.std.proofs.Common.{ℕ, ◌≤◌}
use Rattle.vrp_model.specs.Request.{IsDepotWithDemand}
use Rattle.vrp_model.proofs.depots.Depots.lowest_with_demand.Given as goal

abbrev pub invariant-loop-index : goal.invariant-loop-index
invariant-loop-index l = (node : ℕ) → node ≤ l.index → ¬ IsDepotWithDemand l.self l.demands node
