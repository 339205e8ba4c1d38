-- What is known of a piece that was searched.
use Rattle.std.proofs.Common.{◌≡◌, ◌∙◌, ◌⊎◌, ℕ, ◌≤◌, Bool, IsTrue, inl, inr, Option, List, refl, arith}
use Rattle.vrp_model.specs.Problem.{Problem, customers}
use Rattle.vrp_model.specs.Route.{PricedPlan}
use Rattle.vrp_model.specs.Word.{IsPrefix}
use Rattle.vrp_search_tree.specs.Cutting.{NumberedWord}
use Rattle.vrp_search_tree.specs.Search.{EndsSearch, IsFinished, IsUnfinished, NoneBeforeUnder}
use Rattle.vrp_search_tree.specs.declared.piece_search.depth_first.Ended.{Ended}
use Rattle.vrp_search_tree.specs.declared.piece_search.depth_first.Ended.TheVariants.{Finished, Unfinished}
use Rattle.vrp_answer.specs.Outcomes.{IsFinishedPiece, IsOpenPiece, Search}

-- no word is before what is known, where the floor is lower
pub none_before_lower : (p : Problem) (prefix : List ℕ) (floor lower : ℕ) (last_offer : Option PricedPlan) → lower ≤ floor → NoneBeforeUnder p prefix floor last_offer → NoneBeforeUnder p prefix lower last_offer
none_before_lower p prefix floor lower last_offer falls none = λ word lawful begins. elim (none word lawful begins) [
  | inl above ↦ inl (omega (arith, falls, above))
  | inr behind ↦ inr behind
]

-- a search that was allowed less ends as one that is allowed more, where it may be stopped
pub ends_within : (p : Problem) (among prefix : List ℕ) (budget more floor : ℕ) (may_stop : Bool) (ended : Ended) → budget ≤ more → (budget ≡ more) ⊎ IsTrue may_stop → EndsSearch p among prefix budget may_stop floor ended → EndsSearch p among prefix more may_stop floor ended
ends_within p among prefix budget more floor may_stop (Finished spent last_offer) within all ends = record {
  some = ends.some;
  within = omega (arith, ends.within, within);
  tree = ends.tree;
  found = ends.found;
  offered = ends.offered;
  none_before = ends.none_before;
  none_cheaper = ends.none_cheaper;
}
ends_within p among prefix budget more floor may_stop (Unfinished spent low) within all ends = record {
  within = omega (arith, ends.within, within);
  all_spent = elim ends.all_spent [
    | inl spent_all ↦ elim all [
      | inl same ↦ inl (spent_all ∙ same)
      | inr stops ↦ inr stops
    ]
    | inr stops ↦ inr stops
  ];
  tree = ends.tree;
  is_low = ends.is_low;
  none_cheaper = ends.none_cheaper;
}

pub finished_piece : (s : Search) (piece : NumberedWord) (budget number floor lower spent : ℕ) (last_offer : Option PricedPlan) → number ≡ piece.number → lower ≤ floor → IsFinished s.problem piece.word budget floor spent last_offer
    → IsFinishedPiece s lower piece (record { number = number; floor = lower; last_offer = last_offer })
finished_piece s piece budget number floor lower spent last_offer same falls ended = record {
  number = same;
  above = omega arith;
  plan_of = λ plan is. (ended.found plan is).plan_of;
  none_before = none_before_lower s.problem piece.word floor lower last_offer falls ended.none_before;
}

pub open_piece : (s : Search) (piece : NumberedWord) (spent low : ℕ) → IsPrefix s.problem piece.word → IsUnfinished s.problem (customers s.problem) piece.word s.budget s.may_stop spent low → IsOpenPiece s piece (record { piece = piece; low = low })
open_piece s piece spent low prefix ended = record { same = refl; prefix = prefix; looked = spent; within = ended.within; all_spent = ended.all_spent; large = ended.tree; is_low = ended.is_low; none_cheaper = ended.none_cheaper }
