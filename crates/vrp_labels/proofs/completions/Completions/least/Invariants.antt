use Rattle.std.proofs.Common.{◌≡◌, ◌⊎◌, ◌^◌, pos, ℕ, ◌≤◌, ◌<◌, ◌≤ℤ◌}
use Rattle.vrp_duals.specs.Folding.{arc_of}
use Rattle.vrp_labels.specs.Completion.{IsLeastJoin, IsLinkCost}
use Rattle.vrp_labels.specs.Graph.{Follows}
use Rattle.vrp_labels.specs.Label.{pile_at}
use Rattle.vrp_labels.proofs.completions.Completions.least.Given as goal

abbrev pub invariant-loop-place : goal.invariant-loop-place
invariant-loop-place l = record {
  attained : (l.best ≡ pos (2 ^ 62)) ⊎ IsLinkCost l.self l.forward l.best;
  none : Follows l.self.graph l.forward.at 0 → l.best ≤ℤ arc_of l.self.graph.folded l.forward.at 0;
  each : (at : ℕ) → 1 ≤ at → at < l.place → Follows l.self.graph l.forward.at at → IsLeastJoin l.self.graph l.forward (pile_at l.self.kept at) l.best;
}
