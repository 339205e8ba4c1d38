use Rattle.std.proofs.Common.{◌≡◌, ◌<◌, ℕ, get_or}
use Rattle.std.specs.Int.{bit_at}
use Rattle.vrp_labels.specs.Completion.{Links}
use Rattle.vrp_labels.specs.Fixing.{read_from}
use Rattle.vrp_labels.specs.Graph.{Follows}
use Rattle.vrp_labels.specs.Label.{pile_at, root_label}
use Rattle.vrp_labels.proofs.completions.Completions.linked_from.Given as goal

abbrev pub invariant-loop-label : goal.invariant-loop-label
invariant-loop-label l = record {
  marked : (k : ℕ) → k < l.label-index → (j : ℕ) → j < l.self.graph.folded.places → Links l.self (read_from l.side l.self.graph (get_or (pile_at l.piles l.i) k root_label)) j → bit_at l.set j ≡ 1;
  alive : (j : ℕ) → bit_at l.set j ≡ 1 → Follows l.self.graph l.i j;
}
