use Rattle.std.proofs.Common.{◌≡◌, ◌<◌, ◌==◌, ℕ, false}
use Rattle.std.specs.Prelude.{slice_index}
use Rattle.vrp_model.proofs.plan.stops_len.Given as goal

abbrev pub invariant-loop-place : goal.invariant-loop-place
invariant-loop-place l = (k : ℕ) → k < l.place → (slice_index l.word k == 0) ≡ false
