use Rattle.std.proofs.Common.{◌≡◌, ◌⊎◌, ℕ, ◌<◌, ◌≤ℤ◌, get_or}
use Rattle.vrp_labels.specs.Completion.{CanJoin, IsJoinCost, join_cost}
use Rattle.vrp_labels.specs.Label.{root_label}
use Rattle.vrp_labels.proofs.lookup.least_join.Given as goal

abbrev pub invariant-loop-label : goal.invariant-loop-label
invariant-loop-label l = record {
  attained : (l.best ≡ l.known) ⊎ IsJoinCost l.graph l.forward l.pile l.best;
  below : l.best ≤ℤ l.known;
  least : (k : ℕ) → k < l.label-index → CanJoin l.graph l.forward (get_or l.pile k root_label) → l.best ≤ℤ join_cost l.graph l.forward (get_or l.pile k root_label);
}
