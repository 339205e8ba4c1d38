-- The greatest customer that a word leaves unserved, and what it tells of a partial plan without completion.
use Rattle.std.proofs.Common.{◌≡◌, ◌≢◌, ◌⊎◌, ℕ, ◌+◌, ◌≤◌, ◌<◌, Bool, true, false, refl, List, [], ◌∷◌, ◌++◌, length, get_or, sym, subst, ◌∙◌, inl, inr, arith}
use Rattle.std.specs.List.{All, Contains}
use Rattle.std.specs.Prelude.{slice_index, slice_index_or}
use Rattle.std.proofs.lemmas.Bool.{cases_lt}
use Rattle.std.proofs.lemmas.List.Elements.{All-contains, All-contains_itself}
use Rattle.vrp_model.specs.Problem.{IsSymmetric, Problem, customers, place_count}
use Rattle.vrp_model.specs.Word.{HasNoCompletion, last_route, last_symbol, stands_in, unserved_in}
use Rattle.vrp_model.proofs.CustomerPlaces.{customer_below, customer_is_some, is_customer}
use Rattle.vrp_model.proofs.UnservedCustomers.{all_unserved, stands_in-append, stands_last, unserved_at_depot, unserved_before, unserved_if_not_standing, unserved_is_customer, unserved_stands_not}
use Rattle.vrp_search_tree.specs.Inner.Tallied.{AreFlags, IsGreatestBelow}
use Rattle.vrp_search_tree.specs.Tally.{IsGreatestUnserved, IsTally}
use Rattle.vrp_search_tree.specs.declared.tally.Tally.{Tally}

-- before any symbol it is the last customer
pub greatest_of_all : (p : Problem) (count : ℕ) → count + 1 ≡ place_count p → IsGreatestUnserved p [] count
greatest_of_all p count all = record {
  met = elim (cases_lt 0 count) [
    | inr none ↦ inl (omega (arith, none))
    | inl some ↦ inr (subst (λ (ks : List ℕ). Contains ks count) (sym (all_unserved p)) (is_customer p count some (omega (arith, all))))
  ];
  none_above = subst (All (λ k. k ≤ count)) (sym (all_unserved p)) (λ i d lt. omega (arith, all, customer_below p _ (All-contains_itself (customers p) i d lt)));
}

-- the depot serves nobody
pub greatest_at_depot : (p : Problem) (word : List ℕ) (greatest : ℕ) → IsGreatestUnserved p word greatest → IsGreatestUnserved p (word ++ 0 ∷ []) greatest
greatest_at_depot p word greatest is =
    let same = sym (unserved_at_depot p word) in
    record {
      met = elim is.met [
        | inl none ↦ inl none
        | inr here ↦ inr (subst (λ (ks : List ℕ). Contains ks greatest) same here)
      ];
      none_above = subst (All (λ k. k ≤ greatest)) same is.none_above;
    }

-- another customer stays unserved
still_unserved : (p : Problem) (word : List ℕ) (k j : ℕ) → j ≢ k → Contains (unserved_in p word) j → Contains (unserved_in p (word ++ k ∷ [])) j
still_unserved p word k j differs unserved =
    unserved_if_not_standing p (word ++ k ∷ []) j (unserved_is_customer p word j unserved) (stands_in-append word k j differs ∙ unserved_stands_not p word j unserved)

-- the one that is served isn't
served_differs : (p : Problem) (word : List ℕ) (k j : ℕ) → Contains (unserved_in p (word ++ k ∷ [])) j → j ≢ k
served_differs p word k j unserved same =
    let none = unserved_stands_not p (word ++ k ∷ []) j unserved in
    let stands = subst (λ n. stands_in (word ++ n ∷ []) j ≡ true) same (stands_last word j) in
    cc

-- the greatest stays where another customer is served
pub greatest_stays : (p : Problem) (word : List ℕ) (k greatest : ℕ) → k ≢ greatest → IsGreatestUnserved p word greatest → IsGreatestUnserved p (word ++ k ∷ []) greatest
greatest_stays p word k greatest differs is = record {
  met = elim is.met [
    | inl none ↦ inl none
    | inr here ↦ inr (still_unserved p word k greatest (λ same. differs (sym same)) here)
  ];
  none_above = λ i d lt. All-contains (λ j. j ≤ greatest) (unserved_in p word) _ is.none_above (unserved_before p word k _ (All-contains_itself (unserved_in p (word ++ k ∷ [])) i d lt));
}

-- where the greatest is served, the next one below it is the greatest
pub next_greatest : (p : Problem) (word : List ℕ) (k greatest lower : ℕ) → k ≡ greatest → IsGreatestUnserved p word greatest → IsGreatestBelow p word k lower → IsGreatestUnserved p (word ++ k ∷ []) lower
next_greatest p word k greatest lower same is below = record {
  met = elim below.met [
    | inl none ↦ inl none
    | inr (here, lt) ↦ inr (still_unserved p word k lower (λ equal. omega (arith, equal, lt)) here)
  ];
  none_above = λ i d lt.
      let here = All-contains_itself (unserved_in p (word ++ k ∷ [])) i d lt in
      let before = unserved_before p word k _ here in
      let most = All-contains (λ j. j ≤ greatest) (unserved_in p word) _ is.none_above before in
      let differs = served_differs p word k _ here in
      All-contains (λ j. j < k → j ≤ lower) (unserved_in p word) _ below.none_above before (omega (arith, most, same, differs));
}

-- ---- looking for the next one

-- a customer that isn't flagged, where all between it and another one are served
pub met_below : (p : Problem) (word : List ℕ) (flags : List Bool) (customer lower : ℕ) → AreFlags p word flags → 0 < lower → lower < customer → customer < place_count p → slice_index_or flags lower false ≡ false
    → ((k : ℕ) → lower < k → k < customer → stands_in word k ≡ true) → IsGreatestBelow p word customer lower
met_below p word flags customer lower are some below within unflagged served = record {
  met = inr (unserved_if_not_standing p word lower (is_customer p lower some (omega (arith, below, within))) (sym (are lower some (omega (arith, below, within))) ∙ unflagged), below);
  none_above = λ i d lt low. elim (cases_lt lower (get_or (unserved_in p word) i d)) [
    | inr at_most ↦ at_most
    | inl above ↦ absurd (let none = unserved_stands_not p word _ (All-contains_itself (unserved_in p word) i d lt) in let stands = served _ above low in cc)
  ];
}

-- all below a customer are served
pub none_below : (p : Problem) (word : List ℕ) (customer : ℕ) → ((k : ℕ) → 1 ≤ k → k < customer → stands_in word k ≡ true) → IsGreatestBelow p word customer 0
none_below p word customer served = record {
  met = inl refl;
  none_above = λ i d lt low.
      let here = All-contains_itself (unserved_in p word) i d lt in
      absurd (let none = unserved_stands_not p word _ here in let stands = served _ (omega (arith, customer_is_some p _ (unserved_is_customer p word _ here))) low in cc);
}

-- ---- prefixes without completion

some_unserved : (p : Problem) (word : List ℕ) (greatest : ℕ) → IsGreatestUnserved p word greatest → 0 < length (unserved_in p word) → 0 < greatest
some_unserved p word greatest is some =
    let here = All-contains_itself (unserved_in p word) 0 0 some in
    omega (arith, All-contains (λ j. j ≤ greatest) (unserved_in p word) _ is.none_above here, customer_is_some p _ (unserved_is_customer p word _ here))

-- what tells a partial plan without completion in a symmetric problem
abbrev pub TellsNoCompletion : Tally → ℕ → Type 0
TellsNoCompletion t at = (t.greatest < t.first_customer) × ((0 < t.greatest) ⊎ ((0 < at) × (at < t.first_customer)))

pub told_no_completion : (p : Problem) (word : List ℕ) (t : Tally) (at : ℕ) → IsTally p word t → at ≡ last_symbol word → IsSymmetric p → TellsNoCompletion t at → HasNoCompletion p word
told_no_completion p word t at tally ends symmetric (low, left) = record {
  symmetric = symmetric;
  below = λ i d lt. omega (arith, low, tally.first_customer, tally.greatest.none_above i d lt);
  ends = elim left [
    | inl some ↦ elim tally.greatest.met [
      | inl none ↦ absurd (omega (arith, some, none))
      | inr here ↦ inl (omega (arith, here.1))
    ]
    | inr back ↦ inr (omega (arith, ends, back.0), omega (arith, ends, back.1, tally.first_customer))
  ];
}

pub no_completion_told : (p : Problem) (word : List ℕ) (t : Tally) (at : ℕ) → IsTally p word t → at ≡ last_symbol word → HasNoCompletion p word → TellsNoCompletion t at
no_completion_told p word t at tally ends no_completion =
    let first = slice_index (last_route word) 0 in
    let positive : 0 < first = elim no_completion.ends [
      | inl some ↦ let below = no_completion.below 0 0 some in omega (arith, below)
      | inr back ↦ omega (arith, back.1)
    ] in (
      elim tally.greatest.met [
        | inl none ↦ omega (arith, none, positive, tally.first_customer)
        | inr here ↦ omega (arith, All-contains (λ k. k < first) (unserved_in p word) _ no_completion.below here, tally.first_customer)
      ],
      elim no_completion.ends [
        | inl some ↦ inl (some_unserved p word t.greatest tally.greatest some)
        | inr back ↦ inr (omega (arith, ends, back.0), omega (arith, ends, back.1, tally.first_customer))
      ],
    )
