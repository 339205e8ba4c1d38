use Rattle.std.proofs.Common.{ℕ, ◌≤◌, ◌<◌, [], ◌∷◌, ◌++◌}
use Rattle.vrp_model.specs.Word.{IsPrefix}
use Rattle.vrp_search_tree.proofs.partial.Partial.next_stop.Given as goal

abbrev pub invariant-loop-customer : goal.invariant-loop-customer
invariant-loop-customer l = record {
  none : (k : ℕ) → l.fn.from ≤ k → k < l.customer → IsPrefix l.self.problem (l.self.word ++ k ∷ []) → ⊥;
}
