use Rattle.std.proofs.Common.{ℕ, ◌<◌, get_or}
use Rattle.vrp_labels.specs.Widening.{IsWiderAt}
use Rattle.vrp_labels.proofs.widening.are_wider.Given as goal

abbrev pub invariant-loop-place : goal.invariant-loop-place
invariant-loop-place l = (place : ℕ) → place < l.place → IsWiderAt l.folded place (get_or l.memories place 0)
