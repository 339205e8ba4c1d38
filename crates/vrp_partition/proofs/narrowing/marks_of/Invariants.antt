use Rattle.std.proofs.Common.{◌≡◌, ◌<◌, ℕ, get_or, length, true, false}
use Rattle.vrp_partition.proofs.narrowing.marks_of.Given as goal

-- the places so far are marked
abbrev pub invariant-loop-place : goal.invariant-loop-place
invariant-loop-place l = record {
  long : length l.marks.items ≡ l.count;
  each : (at : ℕ) → at < l.place-index → get_or l.marks.items (get_or l.places at 0) false ≡ true;
}
