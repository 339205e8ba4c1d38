use Rattle.std.proofs.Common.{◌≡◌, ◌<◌, ℕ, pos, neg_ℤ, false, get_or}
use Rattle.std.specs.Ordering.{int_eq}
use Rattle.vrp_text.proofs.complete.listed_depots.Given as goal

abbrev pub invariant-loop-place : goal.invariant-loop-place
invariant-loop-place l = (k : ℕ) → k < l.place → int_eq (get_or l.numbers k (pos 0)) (neg_ℤ (pos 1)) ≡ false
