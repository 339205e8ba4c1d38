-- What is known after each outcome that is taken note of.
use Rattle.std.proofs.Common.{◌≡◌, ◌≢◌, ◌∙◌, ℕ, zero, suc, ◌+◌, ◌<◌, ◌⊎◌, inl, inr, Bool, true, false, true≢false, Result, Ok, Err, Option, List, [], ◌∷◌, ◌++◌, length, length-append, get_or, set, take, refl, sym, subst, ap, arith}
use Rattle.std.specs.Prelude.{replicate}
use Rattle.std.specs.List.{All, Contains}
use Rattle.std.specs.Option.{ForSome}
use Rattle.std.proofs.lemmas.Bool.{cases_eq}
use Rattle.std.proofs.lemmas.List.{get_or-map, get_or-set_other, get_or-set_same, get_or-take, get_or_append_left, length-map, length-replicate, length-set, length-take-le, map-append, take_more}
use Rattle.std.proofs.Math.Seq.{get_or-append_seam, take-length}
use Rattle.std.proofs.lemmas.List.Elements.{All-append, All-cons, All-nil, Contains-get_or}
use Rattle.std.proofs.lemmas.List.Kept.{AllPairs-cons}
use Rattle.std.proofs.lemmas.List.Sorted.{IsPermutation-sym, IsPermutation-to_front}
use Rattle.vrp_model.specs.Route.{IsPlanOf, PricedPlan}
use Rattle.vrp_model.proofs.DistinctLists.{AreDistinct, AreDistinct-permutation}
use Rattle.vrp_search_tree.specs.Cutting.{NumberedWord}
use Rattle.vrp_search_tree.specs.Search.{NoneBeforeUnder}
use Rattle.vrp_answer.specs.Gatherer.{IsAdded, AnswersAdd}
use Rattle.vrp_answer.specs.Inner.Conclusion.{AreApart, AreNoted, IsOpenPieceOf, IsOfferedTo, numbers_of, piece_numbers}
use Rattle.vrp_answer.specs.Outcomes.{AreOutcomes, IsFinishedPiece, IsOutcome, IsOpenPiece, Search}
use Rattle.vrp_answer.specs.declared.gatherer.GatherError.{GatherError}
use Rattle.vrp_answer.specs.declared.gatherer.GatherError.TheVariants.{Double, Stranger}
use Rattle.vrp_answer.specs.declared.outcome.Finished.{Finished}
use Rattle.vrp_answer.specs.declared.outcome.OpenPiece.{OpenPiece}
use Rattle.vrp_answer.specs.declared.outcome.PieceOutcome.{PieceOutcome}
use Rattle.vrp_answer.proofs.BestPlan.{still_lawful, still_none}
use Rattle.vrp_answer.proofs.Outcomes.{none_before_lower}

-- ---- lists with one more element

contains_before : {X : Type 0} (xs : List X) (more : List X) (x : X) → Contains xs x → Contains (xs ++ more) x
contains_before xs more x (place, lt, is) = (place, omega (arith, lt, length-append xs more), get_or_append_left xs more x place lt ∙ is)

contains_last : {X : Type 0} (xs : List X) (x : X) → Contains (xs ++ x ∷ []) x
contains_last [] x = (0, omega arith, refl)
contains_last (y ∷ xs) x = let (place, lt, is) = contains_last xs x in (suc place, omega (arith, lt), is)

number_before : (done : List NumberedWord) (piece : NumberedWord) (number : ℕ) → Contains (piece_numbers done) number → Contains (piece_numbers (done ++ piece ∷ [])) number
number_before done piece number inside = subst (λ (ns : List ℕ). Contains ns number) (sym (map-append (λ (p : NumberedWord). p.number) done (piece ∷ []))) (contains_before (piece_numbers done) (piece.number ∷ []) number inside)

number_last : (done : List NumberedWord) (piece : NumberedWord) → Contains (piece_numbers (done ++ piece ∷ [])) piece.number
number_last done piece = subst (λ (ns : List ℕ). Contains ns piece.number) (sym (map-append (λ (p : NumberedWord). p.number) done (piece ∷ []))) (contains_last (piece_numbers done) piece.number)

left_before : (s : Search) (done : List NumberedWord) (piece : NumberedWord) (left : OpenPiece) → IsOpenPieceOf s done left → IsOpenPieceOf s (done ++ piece ∷ []) left
left_before s done piece left (inside, is) = (contains_before done (piece ∷ []) left.piece inside, is)

-- the number of a piece that is left is one of these pieces'
left_number : (s : Search) (done : List NumberedWord) (left : List OpenPiece) (number : ℕ) → All (IsOpenPieceOf s done) left → Contains (numbers_of left) number → Contains (piece_numbers done) number
left_number s done left number all (place, lt, is) =
    let none : OpenPiece = record { piece = record { number = 0; word = [] }; low = 0 } in
    let within : place < length left = omega (arith, lt, length-map left (λ (l : OpenPiece). l.piece.number)) in
    let ((at, inside, found), is_left) = all place none within in
    let own : (get_or left place none).piece.number ≡ number = sym (get_or-map (λ (l : OpenPiece). l.piece.number) left place none number within) ∙ is in
    (at, omega (arith, inside, length-map done (λ (p : NumberedWord). p.number)), get_or-map (λ (p : NumberedWord). p.number) done at (get_or left place none).piece number inside ∙ ap (λ (p : NumberedWord). p.number) found ∙ own)

-- ---- numbers that stand once

numbers_more : (left : List OpenPiece) (one : OpenPiece) → numbers_of (left ++ one ∷ []) ≡ numbers_of left ++ one.piece.number ∷ []
numbers_more left one = map-append (λ (l : OpenPiece). l.piece.number) left (one ∷ [])

once_more : (numbers : List ℕ) (number : ℕ) → AreDistinct numbers → (Contains numbers number → ⊥) → AreDistinct (numbers ++ number ∷ [])
once_more numbers number once fresh = AreDistinct-permutation (number ∷ numbers) (numbers ++ number ∷ []) (IsPermutation-sym (numbers ++ number ∷ []) (number ∷ numbers) (IsPermutation-to_front numbers number)) (AllPairs-cons (λ a b. a ≢ b) number numbers (λ k d lt. λ same. fresh (subst (Contains numbers) (sym same) (Contains-get_or numbers k d lt))) once)

in_more : (left : List OpenPiece) (one : OpenPiece) (number : ℕ) → Contains (numbers_of left) number → Contains (numbers_of (left ++ one ∷ [])) number
in_more left one number inside = subst (λ (ns : List ℕ). Contains ns number) (sym (numbers_more left one)) (contains_before (numbers_of left) (one.piece.number ∷ []) number inside)

last_in : (left : List OpenPiece) (one : OpenPiece) → Contains (numbers_of (left ++ one ∷ [])) one.piece.number
last_in left one = subst (λ (ns : List ℕ). Contains ns one.piece.number) (sym (numbers_more left one)) (contains_last (numbers_of left) one.piece.number)

-- one of the last list is one of the first, or the last
in_either : (numbers : List ℕ) (last number : ℕ) → Contains (numbers ++ last ∷ []) number → Contains numbers number ⊎ (number ≡ last)
in_either [] last number (zero, lt, is) = inr (sym is)
in_either [] last number (suc k, lt, is) = absurd (omega (arith, lt))
in_either (first ∷ numbers) last number (zero, lt, is) = inl (0, omega arith, is)
in_either (first ∷ numbers) last number (suc k, lt, is) = elim (in_either numbers last number (k, omega (arith, lt), is)) [
  | inl (at, inside, found) ↦ inl (suc at, omega (arith, inside), found)
  | inr same ↦ inr same
]

-- ---- what a gatherer answers

-- a number that was not added before, and is one of the numbers, is added
pub added_now : (old new : List Bool) (number : ℕ) (answer : Result (Unit {0}) GatherError) → (IsAdded old number → ⊥) → number < length old → AnswersAdd old number answer new → new ≡ set old number true
added_now old new number (Ok _) fresh within (missing, is) = is
added_now old new number (Err (Double other)) fresh within (same, added, is) = absurd (fresh added)
added_now old new number (Err (Stranger other)) fresh within (same, above, is) = absurd (omega (arith, within, above))

-- ---- one more outcome

pub none_gathered : (s : Search) (floor : ℕ) (best : Option PricedPlan) → ForSome best (IsPlanOf s.problem) → AreNoted s floor best [] (replicate s.pieces false) []
none_gathered s floor best plan_of = record {
  plan_of = plan_of;
  count = length-replicate s.pieces false;
  are_left = All-nil (IsOpenPieceOf s []);
  once = λ i j d before lt. absurd (omega (arith, lt));
  only = λ number added. absurd (true≢false (sym added ∙ none_added s.pieces number));
  apart = λ number added (place, lt, is). absurd (omega (arith, lt));
  each = λ k d lt. absurd (omega (arith, lt));
}
  where
    none_added : (count number : ℕ) → get_or (replicate count false) number false ≡ false
    none_added zero number = refl
    none_added (suc count) zero = refl
    none_added (suc count) (suc number) = none_added count number

-- the piece is finished, and what its search found was offered
pub one_finished : (s : Search) (floor : ℕ) (best new : Option PricedPlan) (pieces : List NumberedWord) (added now : List Bool) (left : List OpenPiece) (piece : NumberedWord) (done : Finished) (answer : Result (Unit {0}) GatherError)
    → AreNoted s floor best pieces added left → (Contains (piece_numbers pieces) piece.number → ⊥) → piece.number < s.pieces → IsFinishedPiece s floor piece done → IsOfferedTo best done.last_offer new → AnswersAdd added done.number answer now
    → AreNoted s floor new (pieces ++ piece ∷ []) now left
one_finished s floor best new pieces added now left piece done answer so_far fresh below finished offered gathered =
    let number = piece.number in
    let not_added : IsAdded added number → ⊥ = λ is. fresh (so_far.only number is) in
    let is_set : now ≡ set added number true = added_now added now number answer not_added (omega (arith, below, so_far.count)) (subst (λ n. AnswersAdd added n answer now) finished.number gathered) in
    let there : IsAdded now number = rw is_set (get_or-set_same added number true false (omega (arith, below, so_far.count))) in
    let elsewhere : (other : ℕ) → (other ≡ number → ⊥) → get_or now other false ≡ get_or added other false = λ other differs. rw is_set (get_or-set_other added number other true false differs) in
    record {
      plan_of = still_lawful s.problem best done.last_offer new offered so_far.plan_of finished.plan_of;
      count = ap length is_set ∙ length-set added number true ∙ so_far.count;
      are_left = λ k d lt. left_before s pieces piece (get_or left k d) (so_far.are_left k d lt);
      once = so_far.once;
      only = λ other is. elim (cases_eq other number) [
        | inl same ↦ rw same (number_last pieces piece)
        | inr differs ↦ number_before pieces piece other (so_far.only other (sym (elsewhere other differs) ∙ is))
      ];
      apart = λ other is inside. elim (cases_eq other number) [
        | inl same ↦ fresh (subst (Contains (piece_numbers pieces)) same (left_number s pieces left other so_far.are_left inside))
        | inr differs ↦ so_far.apart other (sym (elsewhere other differs) ∙ is) inside
      ];
      each =
          All-append (λ p. Contains (numbers_of left) p.number ⊎ (IsAdded now p.number × NoneBeforeUnder s.problem p.word floor new)) pieces (piece ∷ [])
          (λ k d lt. elim (so_far.each k d lt) [
            | inl is_left ↦ inl is_left
            | inr (is, none) ↦ inr (still_added (get_or pieces k d).number (elsewhere (get_or pieces k d).number) is there, still_none s.problem (get_or pieces k d).word floor floor best new (omega arith) offered.later none)
          ])
          (All-cons (λ p. Contains (numbers_of left) p.number ⊎ (IsAdded now p.number × NoneBeforeUnder s.problem p.word floor new)) piece []
          (inr (there, still_none s.problem piece.word floor floor done.last_offer new (omega arith) offered.no_later (none_before_lower s.problem piece.word done.floor floor done.last_offer finished.above finished.none_before)))
          (All-nil (λ p. Contains (numbers_of left) p.number ⊎ (IsAdded now p.number × NoneBeforeUnder s.problem p.word floor new))));
    }
  where
    still_added : (other : ℕ) → ((other ≡ piece.number → ⊥) → get_or now other false ≡ get_or added other false) → IsAdded added other → IsAdded now piece.number → IsAdded now other
    still_added other same is there = elim (cases_eq other piece.number) [
      | inl equal ↦ rw equal there
      | inr differs ↦ same differs ∙ is
    ]

-- the piece is left unfinished
pub one_left : (s : Search) (floor : ℕ) (best : Option PricedPlan) (pieces : List NumberedWord) (added : List Bool) (left : List OpenPiece) (piece : NumberedWord) (one : OpenPiece)
    → AreNoted s floor best pieces added left → (Contains (piece_numbers pieces) piece.number → ⊥) → IsOpenPiece s piece one → AreNoted s floor best (pieces ++ piece ∷ []) added (left ++ one ∷ [])
one_left s floor best pieces added left piece one so_far fresh is =
    let same : piece ≡ one.piece = sym is.same in
    let number : piece.number ≡ one.piece.number = ap (λ (p : NumberedWord). p.number) same in
    record {
      plan_of = so_far.plan_of;
      count = so_far.count;
      are_left =
          All-append (IsOpenPieceOf s (pieces ++ piece ∷ [])) left (one ∷ []) (λ k d lt. left_before s pieces piece (get_or left k d) (so_far.are_left k d lt))
          (All-cons (IsOpenPieceOf s (pieces ++ piece ∷ [])) one [] (subst (Contains (pieces ++ piece ∷ [])) same (contains_last pieces piece), subst (λ (p : NumberedWord). IsOpenPiece s p one) same is) (All-nil (IsOpenPieceOf s (pieces ++ piece ∷ []))));
      once = subst AreDistinct (sym (numbers_more left one)) (once_more (numbers_of left) one.piece.number so_far.once (λ inside. fresh (subst (Contains (piece_numbers pieces)) (sym number) (left_number s pieces left one.piece.number so_far.are_left inside))));
      only = λ other is_added. number_before pieces piece other (so_far.only other is_added);
      apart = λ other is_added inside. elim (in_either (numbers_of left) one.piece.number other (subst (λ (ns : List ℕ). Contains ns other) (numbers_more left one) inside)) [
        | inl before ↦ so_far.apart other is_added before
        | inr last ↦ fresh (subst (Contains (piece_numbers pieces)) (last ∙ sym number) (so_far.only other is_added))
      ];
      each =
          All-append (λ p. Contains (numbers_of (left ++ one ∷ [])) p.number ⊎ (IsAdded added p.number × NoneBeforeUnder s.problem p.word floor best)) pieces (piece ∷ [])
          (λ k d lt. elim (so_far.each k d lt) [
            | inl is_left ↦ inl (in_more left one (get_or pieces k d).number is_left)
            | inr done ↦ inr done
          ])
          (All-cons (λ p. Contains (numbers_of (left ++ one ∷ [])) p.number ⊎ (IsAdded added p.number × NoneBeforeUnder s.problem p.word floor best)) piece [] (inl (subst (Contains (numbers_of (left ++ one ∷ []))) (sym number) (last_in left one)))
          (All-nil (λ p. Contains (numbers_of (left ++ one ∷ [])) p.number ⊎ (IsAdded added p.number × NoneBeforeUnder s.problem p.word floor best))));
    }

-- a piece's number stands nowhere among the pieces before it
pub none_before_it : (s : Search) (pieces : List NumberedWord) (k : ℕ) (d : NumberedWord) → AreApart s pieces → k < length pieces → Contains (piece_numbers (take k pieces)) (get_or pieces k d).number → ⊥
none_before_it s pieces k d apart lt (place, within, is) =
    let number = (get_or pieces k d).number in
    let prefix = take k pieces in
    let few : length prefix ≡ k = length-take-le k pieces (omega (arith, lt)) in
    let here : place < length prefix = omega (arith, within, length-map prefix (λ (p : NumberedWord). p.number)) in
    let before : place < k = omega (arith, here, few) in
    let same : (get_or pieces place d).number ≡ number =
    ap (λ (p : NumberedWord). p.number) (sym (get_or-take k pieces place d before)) ∙ sym (get_or-map (λ (p : NumberedWord). p.number) prefix place d number here) ∙ is in
    absurd (omega (arith, before, apart.once place k d (omega (arith, before, lt)) lt same))

-- ---- all outcomes

-- the next piece, and its outcome
pub record IsNext (s : Search) (floor : ℕ) (pieces : List NumberedWord) (k : ℕ) (one : PieceOutcome) (piece : NumberedWord) : Type 0 where
  pub kept : IsOutcome s floor piece one
  pub fresh : Contains (piece_numbers (take k pieces)) piece.number → ⊥
  pub below : piece.number < s.pieces
  pub more : take (k + 1) pieces ≡ take k pieces ++ piece ∷ []

pub next_piece : (s : Search) (floor : ℕ) (pieces : List NumberedWord) (outcomes yielded rest : List PieceOutcome) (one : PieceOutcome) → outcomes ≡ yielded ++ one ∷ rest → AreOutcomes s floor pieces outcomes → AreApart s pieces
    → IsNext s floor pieces (length yielded) one (get_or pieces (length yielded) (record { number = 0; word = [] }))
next_piece s floor pieces outcomes yielded rest one split kept apart =
    let none : NumberedWord = record { number = 0; word = [] } in
    let k = length yielded in
    let piece = get_or pieces k none in
    let lt : k < length pieces = omega (arith, kept.many, ap length split, length-append yielded (one ∷ rest)) in
    let at : get_or outcomes k one ≡ one = ap (λ (os : List PieceOutcome). get_or os k one) split ∙ get_or-append_seam yielded one rest one in
    record {
      kept = subst (IsOutcome s floor piece) at (kept.each k none one lt);
      fresh = none_before_it s pieces k none apart lt;
      below = apart.below k none lt;
      more = take_more pieces k none lt;
    }

pub at_last : (s : Search) (floor : ℕ) (best : Option PricedPlan) (pieces : List NumberedWord) (added : List Bool) (left : List OpenPiece) (count : ℕ) → count ≡ length pieces → AreNoted s floor best (take count pieces) added left → AreNoted s floor best pieces added left
at_last s floor best pieces added left count all so_far =
    subst (λ (ps : List NumberedWord). AreNoted s floor best ps added left) (ap (λ n. take n pieces) all ∙ take-length pieces) so_far
