-- Outcomes that are kept stay so.
use Rattle.std.proofs.Common.{ℕ, zero, suc, ◌-◌, ◌≤◌, ◌<◌, inl, inr, List, [], ◌∷◌, ◌++◌, length, length-append, get_or, refl, arith}
use Rattle.std.proofs.lemmas.Bool.{cases_lt}
use Rattle.std.proofs.lemmas.List.{get_or_append_left, get_or-append_right}
use Rattle.vrp_search_tree.specs.Cutting.{NumberedWord}
use Rattle.vrp_answer.specs.Outcomes.{AreOutcomes, IsOutcome, Search}
use Rattle.vrp_answer.specs.declared.outcome.PieceOutcome.{PieceOutcome}
use Rattle.vrp_answer.specs.declared.outcome.PieceOutcome.TheVariants.{Finished, Unfinished}

pub one_lower : (s : Search) (least lower : ℕ) (piece : NumberedWord) (one : PieceOutcome) → lower ≤ least → IsOutcome s least piece one → IsOutcome s lower piece one
one_lower s least lower piece (Finished done) falls kept = record {
  number = kept.number;
  above = omega (arith, falls, kept.above);
  plan_of = kept.plan_of;
  none_before = kept.none_before;
}
one_lower s least lower piece (Unfinished low) falls kept = kept

-- what is kept for a number is kept for a lower one
pub kept_lower : (s : Search) (least lower : ℕ) (pieces : List NumberedWord) (outcomes : List PieceOutcome) → lower ≤ least → AreOutcomes s least pieces outcomes → AreOutcomes s lower pieces outcomes
kept_lower s least lower pieces outcomes falls kept = record {
  many = kept.many;
  each = λ place piece one lt. one_lower s least lower (get_or pieces place piece) (get_or outcomes place one) falls (kept.each place piece one lt);
}

pub none_kept : (s : Search) (least : ℕ) → AreOutcomes s least [] []
none_kept s least = record { many = refl; each = λ place piece one lt. absurd (omega (arith, lt)) }

pub one_kept : (s : Search) (least : ℕ) (piece : NumberedWord) (one : PieceOutcome) → IsOutcome s least piece one → AreOutcomes s least (piece ∷ []) (one ∷ [])
one_kept s least piece one kept = record {
  many = refl;
  each = each;
}
  where
    each : (place : ℕ) (p : NumberedWord) (o : PieceOutcome) → place < 1 → IsOutcome s least (get_or (piece ∷ []) place p) (get_or (one ∷ []) place o)
    each zero p o lt = kept
    each (suc place) p o lt = absurd (omega (arith, lt))

pub kept_together : (s : Search) (least : ℕ) (pieces more : List NumberedWord) (outcomes others : List PieceOutcome) → AreOutcomes s least pieces outcomes → AreOutcomes s least more others → AreOutcomes s least (pieces ++ more) (outcomes ++ others)
kept_together s least pieces more outcomes others kept also = record {
  many = omega (arith, kept.many, also.many, length-append pieces more, length-append outcomes others);
  each = λ place piece one lt. elim (cases_lt place (length pieces)) [
    | inl prefix ↦ rw (get_or_append_left pieces more piece place prefix, get_or_append_left outcomes others one place (omega (arith, prefix, kept.many))) (kept.each place piece one prefix)
    | inr behind ↦
        let left = place - length pieces in
        rw (get_or-append_right pieces more (length pieces) place piece refl (omega (arith, behind)), get_or-append_right outcomes others (length pieces) place one kept.many (omega (arith, behind)))
        (also.each left piece one (omega (arith, lt, behind, length-append pieces more)))
  ];
}
