use Rattle.std.proofs.Common.{◌≡◌, ◌<◌, ℕ, get_or, length}
use Rattle.std.specs.Int.{bit_at}
use Rattle.vrp_labels.proofs.graph.RouteGraph.leaders.Given as goal

abbrev pub invariant-loop-place : goal.invariant-loop-place
invariant-loop-place l = record {
  long : length l.sets.items ≡ l.place;
  each : (k : ℕ) → k < length l.sets.items → (from : ℕ) → from < l.self.folded.places → bit_at (get_or l.sets.items k 0) from ≡ bit_at (get_or l.self.followers from 0) k;
}
