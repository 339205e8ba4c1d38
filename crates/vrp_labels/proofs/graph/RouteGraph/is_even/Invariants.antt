use Rattle.std.proofs.Common.{ℕ, ◌<◌}
use Rattle.vrp_labels.specs.Fixing.{IsPairEven}
use Rattle.vrp_labels.proofs.graph.RouteGraph.is_even.Given as goal

abbrev pub invariant-loop-i : goal.invariant-loop-i
invariant-loop-i l = (i j : ℕ) → i < l.i → j < l.self.folded.places → IsPairEven l.self i j

abbrev pub invariant-loop-j : goal.invariant-loop-j
invariant-loop-j l = record {
  before : (i j : ℕ) → i < l.i → j < l.self.folded.places → IsPairEven l.self i j;
  here : (j : ℕ) → j < l.j → IsPairEven l.self l.i j;
}
