use Rattle.std.proofs.Common.{ℕ, ◌≤◌, ◌<◌, get_or}
use Rattle.vrp_labels.proofs.graph.are_positive.Given as goal

abbrev pub invariant-loop-place : goal.invariant-loop-place
invariant-loop-place l = (k : ℕ) → 1 ≤ k → k < l.place → 1 ≤ get_or l.demands k 0
