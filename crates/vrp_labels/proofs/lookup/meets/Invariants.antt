use Rattle.std.proofs.Common.{ℕ, ◌<◌, get_or}
use Rattle.vrp_labels.specs.Completion.{Meets}
use Rattle.vrp_labels.specs.Label.{root_label}
use Rattle.vrp_labels.proofs.lookup.meets.Given as goal

abbrev pub invariant-loop-label : goal.invariant-loop-label
invariant-loop-label l = (k : ℕ) → k < l.label-index → Meets l.graph l.gap l.forward (get_or l.pile k root_label) → ⊥
