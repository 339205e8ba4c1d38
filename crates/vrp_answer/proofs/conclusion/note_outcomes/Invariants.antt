use Rattle.std.proofs.Common.{◌≡◌, ℕ, ◌++◌, List, length, take}
use Rattle.vrp_search_tree.specs.Cutting.{NumberedWord}
use Rattle.vrp_answer.specs.Inner.Conclusion.{AreApart, AreNoted, IsNoLater}
use Rattle.vrp_answer.specs.Outcomes.{AreOutcomes}
use Rattle.vrp_answer.proofs.conclusion.note_outcomes.Given as goal

abbrev pub invariant-loop-outcome : goal.invariant-loop-outcome
invariant-loop-outcome g l = record {
  later : IsNoLater l.book.plan l.fn.book.plan;
  split : l.fn.outcomes.items ≡ l.yielded ++ l.outcome-iterator.rest.items;
  all : (floor : ℕ) (pieces : List NumberedWord) → AreOutcomes l.shared floor pieces l.fn.outcomes.items → AreApart l.shared pieces
      → AreNoted l.shared floor l.book.plan (take (length l.yielded) pieces) l.gatherer l.left.items;
}
