use Rattle.std.proofs.Common.{◌≡◌, ◌<◌, ◌≤◌, ℕ, get_or}
use Rattle.std.specs.Int.{bit_at}
use Rattle.vrp_labels.proofs.graph.RouteGraph.leaders_of.Given as goal

abbrev pub invariant-loop-from : goal.invariant-loop-from
invariant-loop-from l = record {
  done : (k : ℕ) → k < l.from → bit_at l.set k ≡ bit_at (get_or l.self.followers k 0) l.place;
  rest : (k : ℕ) → l.from ≤ k → bit_at l.set k ≡ 0;
}
