use Rattle.std.proofs.Common.{ℕ, ◌≤◌}
use Rattle.vrp_model.specs.Request.{IsTooHeavy}
use Rattle.vrp_model.proofs.depots.Depots.lowest_too_heavy.Given as goal

abbrev pub invariant-loop-index : goal.invariant-loop-index
invariant-loop-index l = (node : ℕ) → node ≤ l.index → ¬ IsTooHeavy l.self l.demands l.capacity node
