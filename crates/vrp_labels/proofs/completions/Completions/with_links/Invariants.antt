use Rattle.std.proofs.Common.{◌≡◌, ◌⊎◌, ◌<◌, ℕ}
use Rattle.std.specs.Int.{bit_at}
use Rattle.vrp_labels.specs.Completion.{Links}
use Rattle.vrp_labels.specs.Graph.{Follows}
use Rattle.vrp_labels.proofs.completions.Completions.with_links.Given as goal

abbrev pub invariant-loop-place : goal.invariant-loop-place
invariant-loop-place l = record {
  still : (j : ℕ) → bit_at l.fn.known j ≡ 1 → bit_at l.set j ≡ 1;
  linked : (j : ℕ) → j < l.place → Links l.self l.forward j → bit_at l.set j ≡ 1;
  alive : (j : ℕ) → bit_at l.set j ≡ 1 → (bit_at l.fn.known j ≡ 1) ⊎ Follows l.self.graph l.forward.at j;
}
