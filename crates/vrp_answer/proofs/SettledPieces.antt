-- What is known after each piece that is left unfinished and settled.
use Rattle.std.proofs.Common.{◌≡◌, ◌∙◌, ℕ, zero, suc, ◌≤◌, ◌<◌, ◌⊎◌, inl, inr, min, Bool, true, false, true≢false, Option, Some, None, List, ◌∷◌, length, get_or, set, refl, sym, subst, ap, arith}
use Rattle.std.specs.List.{Contains}
use Rattle.std.specs.List.Sorted.{IsPermutation}
use Rattle.std.proofs.lemmas.Bool.{cases_Bool, cases_eq, cases_lt}
use Rattle.std.proofs.lemmas.List.{get_or-set_other, get_or-set_same, get_or_default, length-set}
use Rattle.std.proofs.lemmas.List.Elements.{All-tail}
use Rattle.std.proofs.lemmas.List.Sorted.{All-permutation, Contains-permutation, IsPermutation-map, IsPermutation-sym}
use Rattle.std.proofs.Math.ListN.{get_or-eq_default}
use Rattle.vrp_model.specs.Problem.{IsProblem, Problem, customers}
use Rattle.vrp_model.specs.Route.{PricedPlan}
use Rattle.vrp_model.specs.Word.{IsPrefix, NoneCheaperUnder, unserved_in}
use Rattle.vrp_model.proofs.DistinctLists.{AreDistinct-permutation, head_differs, tail_distinct}
use Rattle.vrp_search_tree.specs.Low.{IsLow}
use Rattle.vrp_search_tree.specs.Search.{NoneBeforeUnder}
use Rattle.vrp_answer.specs.Answer.{IsOwnLow, piece_of}
use Rattle.vrp_answer.specs.Gatherer.{IsAdded, AnswersAdd, IsMissing}
use Rattle.vrp_answer.specs.Inner.Conclusion.{AreOpenPieces, IsOpenPieceAt, IsLeftWith, IsLowFor, IsSettled, numbers_of}
use Rattle.vrp_answer.specs.Outcomes.{IsOpenPiece, Search}
use Rattle.vrp_answer.specs.declared.open_pieces.OpenPieces.{OpenPieces}
use Rattle.vrp_answer.specs.declared.outcome.OpenPiece.{OpenPiece}
use Rattle.vrp_answer.proofs.NotedOutcomes.{added_now}

-- what a prefix's own tables answer is one number
abbrev pub OneLow : Type 0
OneLow = (p : Problem) (among prefix : List ℕ) (low other : Option ℕ) → IsProblem p → IsLow p among prefix low → IsLow p among prefix other → low ≡ other

-- it is no lower than what tables over all customers answer
abbrev pub OwnNoLower : Type 0
OwnNoLower = (p : Problem) (prefix : List ℕ) (low : ℕ) (own : Option ℕ) → IsProblem p → IsPrefix p prefix → IsLow p (customers p) prefix (Some low) → IsLow p (unserved_in p prefix) prefix own → (least : ℕ) × (own ≡ Some least) × (low ≤ least)

-- ---- numbers that are added or missing

pub added_or_missing : (added : List Bool) (number : ℕ) → number < length added → IsAdded added number ⊎ IsMissing added number
added_or_missing added number within = elim (cases_Bool (get_or added number true)) [
  | inl is ↦ inl (get_or_default added number false true within ∙ is)
  | inr is ↦ inr is
]

pub missing_within : (added : List Bool) (number : ℕ) → IsMissing added number → number < length added
missing_within added number is = elim (cases_lt number (length added)) [
  | inl within ↦ within
  | inr beyond ↦ absurd (true≢false (sym (get_or-eq_default added true beyond) ∙ is))
]

pub not_both : (added : List Bool) (number : ℕ) → IsMissing added number → IsAdded added number → ⊥
not_both added number is also = true≢false (sym also ∙ get_or_default added number false true (missing_within added number is) ∙ is)

-- ---- the pieces that are left, in another order

pub open_pieces_permuted : (s : Search) (cutting : List (List ℕ)) (best : Option PricedPlan) (open_pieces : OpenPieces) (left others : List OpenPiece) → IsPermutation left others → AreOpenPieces s cutting best open_pieces left → AreOpenPieces s cutting best open_pieces others
open_pieces_permuted s cutting best open_pieces left others moved known =
    let numbers = IsPermutation-map (λ (l : OpenPiece). l.piece.number) left others moved in
    record {
      priced = known.priced;
      count = known.count;
      places = All-permutation (IsOpenPieceAt s cutting) left others moved known.places;
      once = AreDistinct-permutation (numbers_of left) (numbers_of others) numbers known.once;
      apart = λ number is inside. known.apart number is (Contains-permutation (numbers_of others) (numbers_of left) number (IsPermutation-sym (numbers_of left) (numbers_of others) numbers) inside);
      finished = known.finished;
      known = λ number within is. elim (known.known number within is) [
        | inl settled ↦ inl settled
        | inr inside ↦ inr (Contains-permutation (numbers_of left) (numbers_of others) number numbers inside)
      ];
      met = known.met;
      than_cost = known.than_cost;
    }

-- ---- what the low of a piece that is left tells

-- its own low is no less than the least so far and its low
own_no_less : OneLow → OwnNoLower → (s : Search) (least : ℕ) (left : OpenPiece) (low other : ℕ) → IsProblem s.problem → IsOpenPiece s left.piece left → IsLowFor s least left low → IsOwnLow s.problem left.piece.word (Some other) → low ≤ other
own_no_less one rises s least left low other problem is (inl (same, no_less)) own =
    let (own_low, own_is, no_lower) = rises s.problem left.piece.word left.low (Some other) problem is.prefix is.is_low own in
    let equal : other ≡ own_low = cc (own_is) in
    omega (arith, equal, no_lower, same)
own_no_less one rises s least left low other problem is (inr (own_low, none)) own =
    let same = one s.problem (unserved_in s.problem left.piece.word) left.piece.word (Some low) (Some other) problem own_low own in
    let equal : low ≡ other = cc (same) in
    omega (arith, equal)

none_cheaper_than : (s : Search) (least : ℕ) (left : OpenPiece) (low : ℕ) → IsOpenPiece s left.piece left → IsLowFor s least left low → NoneCheaperUnder s.problem left.piece.word low
none_cheaper_than s least left low is (inl (same, no_less)) = subst (NoneCheaperUnder s.problem left.piece.word) (sym same) is.none_cheaper
none_cheaper_than s least left low is (inr (own, none)) = none

-- it has a low of its own
has_own : OwnNoLower → (s : Search) (left : OpenPiece) → IsProblem s.problem → IsOpenPiece s left.piece left → IsOwnLow s.problem left.piece.word None → ⊥
has_own rises s left problem is own = let (least, own_is, no_lower) = rises s.problem left.piece.word left.low None problem is.prefix is.is_low own in let never : None ≡ Some least = own_is in cc (never)

less_cheaper : (p : Problem) (prefix : List ℕ) (least lower : ℕ) → lower ≤ least → NoneCheaperUnder p prefix least → NoneCheaperUnder p prefix lower
less_cheaper p prefix least lower falls none = λ word lawful begins. omega (arith, falls, none word lawful begins)

left_lower : (s : Search) (prefix : List ℕ) (least lower : ℕ) → lower ≤ least → IsLeftWith s prefix least → IsLeftWith s prefix lower
left_lower s prefix least lower falls is = record {
  is_left = is.is_left;
  none_cheaper = less_cheaper s.problem prefix least lower falls is.none_cheaper;
  than_low = λ other own. omega (arith, falls, is.than_low other own);
}

-- ---- one more is settled

numbers_tail : (left : OpenPiece) (rest : List OpenPiece) (number : ℕ) → Contains (numbers_of (left ∷ rest)) number → (left.piece.number ≡ number) ⊎ Contains (numbers_of rest) number
numbers_tail left rest number (zero, lt, is) = inl is
numbers_tail left rest number (suc k, lt, is) = inr (k, omega (arith, lt), is)

head_missing : (s : Search) (cutting : List (List ℕ)) (best : Option PricedPlan) (open_pieces : OpenPieces) (left : OpenPiece) (rest : List OpenPiece) → AreOpenPieces s cutting best open_pieces (left ∷ rest) → IsMissing open_pieces.gatherer left.piece.number
head_missing s cutting best open_pieces left rest known =
    let place = known.places 0 left (omega arith) in
    elim (added_or_missing open_pieces.gatherer left.piece.number (omega (arith, place.within, known.count))) [
      | inl is ↦ absurd (known.apart left.piece.number is (0, omega arith, refl))
      | inr is ↦ is
    ]

rest_apart : (s : Search) (cutting : List (List ℕ)) (best : Option PricedPlan) (open_pieces : OpenPieces) (left : OpenPiece) (rest : List OpenPiece) → AreOpenPieces s cutting best open_pieces (left ∷ rest) → (number : ℕ) → IsAdded open_pieces.gatherer number → Contains (numbers_of rest) number → ⊥
rest_apart s cutting best open_pieces left rest known number is (k, lt, found) = known.apart number is (suc k, omega (arith, lt), found)

-- its low counts
counted : OneLow → OwnNoLower → (s : Search) (cutting : List (List ℕ)) (best : Option PricedPlan) (old new : OpenPieces) (left : OpenPiece) (rest : List OpenPiece) (low : ℕ) → IsProblem s.problem → AreOpenPieces s cutting best old (left ∷ rest) → new.cost ≡ old.cost
    → IsLowFor s old.low left low → low ≤ old.cost → new.gatherer ≡ old.gatherer → new.low ≡ min old.low low → AreOpenPieces s cutting best new rest
counted one rises s cutting best old new left rest low problem known cost is_low no_more same lower =
    let place = known.places 0 left (omega arith) in
    let number = left.piece.number in
    let prefix : left.piece.word ≡ piece_of cutting number = sym place.prefix in
    let falls : new.low ≤ old.low = omega (arith, lower) in
    let here : IsLeftWith s left.piece.word new.low = record {
      is_left = record { looked = place.is_left.looked; within = place.is_left.within; all_spent = place.is_left.all_spent; large = place.is_left.large; some = has_own rises s left problem place.is_left };
      none_cheaper = less_cheaper s.problem left.piece.word low new.low (omega (arith, lower)) (none_cheaper_than s old.low left low place.is_left is_low);
      than_low = λ other own. omega (arith, lower, own_no_less one rises s old.low left low other problem place.is_left is_low own);
    } in
    record {
      priced = cost ∙ known.priced;
      count = ap length same ∙ known.count;
      places = All-tail (IsOpenPieceAt s cutting) left rest known.places;
      once = tail_distinct number (numbers_of rest) known.once;
      apart = λ other is inside. rest_apart s cutting best old left rest known other (subst (λ (g : List Bool). IsAdded g other) same is) inside;
      finished = λ other is. subst (λ n. NoneBeforeUnder s.problem (piece_of cutting other) n best) (sym cost) (known.finished other (subst (λ (g : List Bool). IsAdded g other) same is));
      known = λ other within is. elim (known.known other within (subst (λ (g : List Bool). IsMissing g other) same is)) [
        | inl settled ↦ inl (left_lower s (piece_of cutting other) old.low new.low falls settled)
        | inr inside ↦ elim (numbers_tail left rest other inside) [
          | inl is_here ↦ inl (subst (λ n. IsLeftWith s (piece_of cutting n) new.low) is_here (subst (λ (w : List ℕ). IsLeftWith s w new.low) prefix here))
          | inr behind ↦ inr behind
        ]
      ];
      met = met_by is_low prefix;
      than_cost = omega (arith, falls, cost, known.than_cost);
    }
  where
    met_before : new.low ≡ old.low → (new.low ≡ new.cost) ⊎ ((number : ℕ) × IsMissing new.gatherer number × IsOwnLow s.problem (piece_of cutting number) (Some new.low))
    met_before stays = elim known.met [
      | inl at_cost ↦ inl (stays ∙ at_cost ∙ sym cost)
      | inr (number, is, own) ↦ inr (number, subst (λ (g : List Bool). IsMissing g number) (sym same) is, subst (λ n. IsOwnLow s.problem (piece_of cutting number) (Some n)) (sym stays) own)
    ]

    met_by : IsLowFor s old.low left low → left.piece.word ≡ piece_of cutting left.piece.number → (new.low ≡ new.cost) ⊎ ((number : ℕ) × IsMissing new.gatherer number × IsOwnLow s.problem (piece_of cutting number) (Some new.low))
    met_by (inl (is_left, no_less)) prefix = met_before (omega (arith, lower, no_less))
    met_by (inr (own, none)) prefix = elim (cases_lt low old.low) [
      | inl less ↦
          let is : new.low ≡ low = omega (arith, lower, less) in
          inr (
            left.piece.number,
            subst (λ (g : List Bool). IsMissing g left.piece.number) (sym same) (head_missing s cutting best old left rest known),
            subst (λ n. IsOwnLow s.problem (piece_of cutting left.piece.number) (Some n)) (sym is) (subst (λ (w : List ℕ). IsOwnLow s.problem w (Some low)) prefix own),
          )
      | inr no_less ↦ met_before (omega (arith, lower, no_less))
    ]

-- each word under it costs more than the best plan
finished_here : (s : Search) (cutting : List (List ℕ)) (best : Option PricedPlan) (old new : OpenPieces) (left : OpenPiece) (rest : List OpenPiece) (low : ℕ) (answer : _) → OneLow → OwnNoLower → IsProblem s.problem → AreOpenPieces s cutting best old (left ∷ rest) → new.cost ≡ old.cost
    → IsLowFor s old.low left low → old.cost < low → AnswersAdd old.gatherer left.piece.number answer new.gatherer → new.low ≡ old.low → AreOpenPieces s cutting best new rest
finished_here s cutting best old new left rest low answer one rises problem known cost is_low more gathered stays =
    let place = known.places 0 left (omega arith) in
    let number = left.piece.number in
    let within : number < length old.gatherer = omega (arith, place.within, known.count) in
    let missing = head_missing s cutting best old left rest known in
    let is_set : new.gatherer ≡ set old.gatherer number true = added_now old.gatherer new.gatherer number answer (not_both old.gatherer number missing) within gathered in
    let none = none_cheaper_than s old.low left low place.is_left is_low in
    let added_elsewhere : (other : ℕ) → (other ≡ number → ⊥) → IsAdded new.gatherer other → IsAdded old.gatherer other =
    λ other differs is. (sym (get_or-set_other old.gatherer number other true false differs) ∙ sym (ap (λ (g : List Bool). get_or g other false) is_set) ∙ is) in
    let missing_before : (other : ℕ) → (other ≡ number → ⊥) → IsMissing new.gatherer other → IsMissing old.gatherer other =
    λ other differs is. (sym (get_or-set_other old.gatherer number other true true differs) ∙ sym (ap (λ (g : List Bool). get_or g other true) is_set) ∙ is) in
    let still_missing : (other : ℕ) → (other ≡ number → ⊥) → IsMissing old.gatherer other → IsMissing new.gatherer other =
    λ other differs is. (ap (λ (g : List Bool). get_or g other true) is_set ∙ get_or-set_other old.gatherer number other true true differs ∙ is) in
    let not_missing : (other : ℕ) → IsMissing new.gatherer other → other ≡ number → ⊥ =
    λ other is same. true≢false (sym (get_or-set_same old.gatherer number true true within) ∙ sym (ap (λ (g : List Bool). get_or g number true) is_set) ∙ subst (IsMissing new.gatherer) same is) in
    record {
      priced = cost ∙ known.priced;
      count = ap length is_set ∙ length-set old.gatherer number true ∙ known.count;
      places = All-tail (IsOpenPieceAt s cutting) left rest known.places;
      once = tail_distinct number (numbers_of rest) known.once;
      apart = λ other is inside. elim (cases_eq other number) [
        | inl same ↦ stands_once (subst (Contains (numbers_of rest)) same inside)
        | inr differs ↦ rest_apart s cutting best old left rest known other (added_elsewhere other differs is) inside
      ];
      finished = λ other is. elim (cases_eq other number) [
        | inl same ↦ subst (λ n. NoneBeforeUnder s.problem (piece_of cutting n) new.cost best) (sym same)
            (subst (λ (w : List ℕ). NoneBeforeUnder s.problem w new.cost best) (sym place.prefix) (λ word lawful begins. inl (omega (arith, cost, more, none word lawful begins))))
        | inr differs ↦ subst (λ n. NoneBeforeUnder s.problem (piece_of cutting other) n best) (sym cost) (known.finished other (added_elsewhere other differs is))
      ];
      known = λ other inside is. elim (known.known other inside (missing_before other (not_missing other is) is)) [
        | inl settled ↦ inl (subst (IsLeftWith s (piece_of cutting other)) (sym stays) settled)
        | inr contains ↦ elim (numbers_tail left rest other contains) [
          | inl is_here ↦ absurd (not_missing other is (sym is_here))
          | inr behind ↦ inr behind
        ]
      ];
      met = elim known.met [
        | inl at_cost ↦ inl (stays ∙ at_cost ∙ sym cost)
        | inr (other, is, own) ↦ elim (cases_eq other number) [
          | inl same ↦
              let own_here : IsOwnLow s.problem left.piece.word (Some old.low) = subst (λ (w : List ℕ). IsOwnLow s.problem w (Some old.low)) place.prefix (subst (λ n. IsOwnLow s.problem (piece_of cutting n) (Some old.low)) same own) in
              absurd (let no_less = own_no_less one rises s old.low left low old.low problem place.is_left is_low own_here in let few = known.than_cost in omega (arith, no_less, more, few))
          | inr differs ↦ inr (other, still_missing other differs is, subst (λ n. IsOwnLow s.problem (piece_of cutting other) (Some n)) (sym stays) own)
        ]
      ];
      than_cost = (let few = known.than_cost in omega (arith, few, cost, stays));
    }
  where
    stands_once : Contains (numbers_of rest) left.piece.number → ⊥
    stands_once (k, lt, is) = head_differs left.piece.number (numbers_of rest) known.once k left.piece.number lt (sym is)

pub one_settled : OneLow → OwnNoLower → (s : Search) (cutting : List (List ℕ)) (best : Option PricedPlan) (old new : OpenPieces) (left : OpenPiece) (rest : List OpenPiece) → IsProblem s.problem → IsSettled s old left new → AreOpenPieces s cutting best old (left ∷ rest) → AreOpenPieces s cutting best new rest
one_settled one rises s cutting best old new left rest problem step known = elim step.step [
  | inl (more, (answer, gathered), stays) ↦ finished_here s cutting best old new left rest step.low answer one rises problem known step.cost step.is_low more gathered stays
  | inr (no_more, same, lower) ↦ counted one rises s cutting best old new left rest step.low problem known step.cost step.is_low no_more same lower
]
