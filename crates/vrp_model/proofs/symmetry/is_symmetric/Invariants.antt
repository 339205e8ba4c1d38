use Rattle.std.proofs.Common.{ℕ, ◌<◌}
use Rattle.vrp_model.specs.Inner.Symmetry.{IsSameBack}
use Rattle.vrp_model.proofs.symmetry.is_symmetric.Given as goal

abbrev pub invariant-loop-from : goal.invariant-loop-from
invariant-loop-from l = (k : ℕ) → k < l.from → IsSameBack l.weights l.places k
