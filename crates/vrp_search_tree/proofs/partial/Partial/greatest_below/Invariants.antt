use Rattle.std.proofs.Common.{◌≡◌, ◌≤◌, ◌<◌, ℕ, true}
use Rattle.vrp_model.specs.Word.{stands_in}
use Rattle.vrp_search_tree.proofs.partial.Partial.greatest_below.Given as goal

abbrev pub invariant-loop-lower : goal.invariant-loop-lower
invariant-loop-lower l = record {
  served : (k : ℕ) → l.lower ≤ k → k < l.customer → stands_in l.self.word k ≡ true;
}
