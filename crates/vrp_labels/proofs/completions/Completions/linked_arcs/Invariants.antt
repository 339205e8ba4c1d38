use Rattle.std.proofs.Common.{◌≡◌, ◌<◌, ℕ, get_or, length}
use Rattle.vrp_labels.specs.Fixing.{Marks}
use Rattle.vrp_labels.proofs.completions.Completions.linked_arcs.Given as goal

abbrev pub invariant-loop-i : goal.invariant-loop-i
invariant-loop-i l = record {
  long : length l.followers.items ≡ l.i;
  each : (k : ℕ) → k < length l.followers.items → Marks l.self l.side l.piles k (get_or l.followers.items k 0);
}
