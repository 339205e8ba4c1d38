use Rattle.std.proofs.Common.{◌≡◌, ℕ, ◌+◌, ◌*◌, ◌<◌}
use Rattle.std.specs.Prelude.{slice_index}
use Rattle.vrp_model.proofs.symmetry.is_same_back.Given as goal

abbrev pub invariant-loop-to : goal.invariant-loop-to
invariant-loop-to l = (k : ℕ) → k < l.to → slice_index l.weights (l.from * l.places + k) ≡ slice_index l.weights (k * l.places + l.from)
