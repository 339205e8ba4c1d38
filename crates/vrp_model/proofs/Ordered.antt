-- The order of words, and of plans by cost and then by word: strict and total.
use Rattle.std.proofs.Common.{◌≡◌, ℕ, ◌<◌, Less, Equal, Greater, Bool, true, nat_lt, ◌==◌, List, [], ◌∷◌, ◌++◌, length, subst, ap, refl, sym, ◌∙◌, inl, inr, ◌⊎◌, arith}
use Rattle.std.specs.Cmp.Lexicographic.{slice_cmp}
use Rattle.std.specs.Ordering.{is_lt, nat_cmp}
use Rattle.std.specs.Prelude.{IsTrue, ◌↔◌, slice_index}
use Rattle.std.proofs.lemmas.Bool.{cases_Bool}
use Rattle.std.proofs.lemmas.Bool.Decides.{nat_tests}
use Rattle.vrp_model.specs.Order.{ComesBefore, IsEarlier}
use Rattle.vrp_model.specs.Word.{word_of}

-- one of two numbers is less, or they are equal
pub three_cases : (j k : ℕ) → (j < k) ⊎ ((j ≡ k) ⊎ (k < j))
three_cases j k =
    elim (cases_Bool (nat_lt j k)) [
      | inl less ↦ inl (grind (arith, nat_tests, less))
      | inr no_less ↦ elim (cases_Bool (j == k)) [
        | inl same ↦ inr (inl (grind (arith, nat_tests, same)))
        | inr other ↦ inr (inr (grind (arith, nat_tests, no_less, other)))
      ]
    ]

-- ---- words

pub earlier_irreflexive : (word : List ℕ) → IsEarlier word word → ⊥
earlier_irreflexive [] earlier = earlier
earlier_irreflexive (k ∷ word) (inl less) = omega (arith, less)
earlier_irreflexive (k ∷ word) (inr (same, earlier)) = earlier_irreflexive word earlier

pub earlier_transitive : (word other third : List ℕ) → IsEarlier word other → IsEarlier other third → IsEarlier word third
earlier_transitive [] [] third earlier later = absurd earlier
earlier_transitive [] (j ∷ other) [] earlier later = absurd later
earlier_transitive [] (j ∷ other) (k ∷ third) earlier later = tt
earlier_transitive (i ∷ word) [] third earlier later = absurd earlier
earlier_transitive (i ∷ word) (j ∷ other) [] earlier later = absurd later
earlier_transitive (i ∷ word) (j ∷ other) (k ∷ third) (inl less) (inl more) = inl (omega (arith, less, more))
earlier_transitive (i ∷ word) (j ∷ other) (k ∷ third) (inl less) (inr (same, later)) = inl (omega (arith, less, same))
earlier_transitive (i ∷ word) (j ∷ other) (k ∷ third) (inr (same, earlier)) (inl more) = inl (omega (arith, same, more))
earlier_transitive (i ∷ word) (j ∷ other) (k ∷ third) (inr (same, earlier)) (inr (level, later)) = inr (same ∙ level, earlier_transitive word other third earlier later)

pub earlier_total : (word other : List ℕ) → IsEarlier word other ⊎ ((word ≡ other) ⊎ IsEarlier other word)
earlier_total [] [] = inr (inl refl)
earlier_total [] (k ∷ other) = inl tt
earlier_total (j ∷ word) [] = inr (inr tt)
earlier_total (j ∷ word) (k ∷ other) =
    elim (three_cases j k) [
      | inl less ↦ inl (inl less)
      | inr (inr more) ↦ inr (inr (inl more))
      | inr (inl same) ↦ elim (earlier_total word other) [
        | inl earlier ↦ inl (inr (same, earlier))
        | inr (inl level) ↦ inr (inl (cc))
        | inr (inr later) ↦ inr (inr (inr (sym same, later)))
      ]
    ]

-- a word is the same as another or earlier
abbrev pub IsNoLater : List ℕ → List ℕ → Type 0
IsNoLater word other = (word ≡ other) ⊎ IsEarlier word other

pub not_earlier : (word other : List ℕ) → IsNoLater word other → IsEarlier other word → ⊥
not_earlier word other (inl same) later = earlier_irreflexive other (subst (λ (xs : List ℕ). IsEarlier other xs) same later)
not_earlier word other (inr earlier) later = earlier_irreflexive word (earlier_transitive word other word earlier later)

pub no_later_transitive : (word other third : List ℕ) → IsNoLater word other → IsNoLater other third → IsNoLater word third
no_later_transitive word other third (inl same) (inl level) = inl (same ∙ level)
no_later_transitive word other third (inl same) (inr later) = inr (subst (λ (xs : List ℕ). IsEarlier xs third) (sym same) later)
no_later_transitive word other third (inr earlier) (inl level) = inr (subst (IsEarlier word) level earlier)
no_later_transitive word other third (inr earlier) (inr later) = inr (earlier_transitive word other third earlier later)

-- the same symbols before two words change nothing
pub earlier_behind : (prefix word other : List ℕ) → IsEarlier word other → IsEarlier (prefix ++ word) (prefix ++ other)
earlier_behind [] word other earlier = earlier
earlier_behind (k ∷ prefix) word other earlier = inr (refl, earlier_behind prefix word other earlier)

pub no_later_behind : (prefix word other : List ℕ) → IsNoLater word other → IsNoLater (prefix ++ word) (prefix ++ other)
no_later_behind prefix word other (inl same) = inl (ap (λ (xs : List ℕ). prefix ++ xs) same)
no_later_behind prefix word other (inr earlier) = inr (earlier_behind prefix word other earlier)

-- where the first route begins with a lesser customer, the word is earlier
pub begins_lower : (route other : List ℕ) (routes others : List (List ℕ)) → 0 < length route → 0 < length other → slice_index route 0 < slice_index other 0 → IsEarlier (word_of (route ∷ routes)) (word_of (other ∷ others))
begins_lower [] other routes others some more lower = absurd (omega arith)
begins_lower (j ∷ route) [] routes others some more lower = absurd (omega arith)
begins_lower (j ∷ route) (k ∷ other) routes others some more lower = inl lower

-- ---- costs and words: a cost and then a word is a list too

pub before_irreflexive : (cost : ℕ) (word : List ℕ) → ComesBefore cost word cost word → ⊥
before_irreflexive cost word before = earlier_irreflexive (cost ∷ word) before

pub before_transitive : (cost : ℕ) (word : List ℕ) (other_cost : ℕ) (other : List ℕ) (third_cost : ℕ) (third : List ℕ)
    → ComesBefore cost word other_cost other → ComesBefore other_cost other third_cost third → ComesBefore cost word third_cost third
before_transitive cost word other_cost other third_cost third before after = earlier_transitive (cost ∷ word) (other_cost ∷ other) (third_cost ∷ third) before after

pub before_total : (cost : ℕ) (word : List ℕ) (other_cost : ℕ) (other : List ℕ)
    → ComesBefore cost word other_cost other ⊎ (((cost ≡ other_cost) × (word ≡ other)) ⊎ ComesBefore other_cost other cost word)
before_total cost word other_cost other =
    elim (earlier_total (cost ∷ word) (other_cost ∷ other)) [
      | inl before ↦ inl before
      | inr (inl same) ↦ inr (inl ((cc), (cc)))
      | inr (inr after) ↦ inr (inr after)
    ]

-- ---- what the comparison of lists answers

compared : (j k : ℕ) → ((j < k) × (nat_cmp j k ≡ Less)) ⊎ (((j ≡ k) × (nat_cmp j k ≡ Equal)) ⊎ ((k < j) × (nat_cmp j k ≡ Greater)))
compared j k =
    elim (cases_Bool (nat_lt j k)) [
      | inl less ↦ inl (grind (arith, nat_tests, less), rw less refl)
      | inr no_less ↦ elim (cases_Bool (j == k)) [
        | inl same ↦ inr (inl (grind (arith, nat_tests, same), rw (no_less, same) refl))
        | inr other ↦ inr (inr (grind (arith, nat_tests, no_less, other), rw (no_less, other) refl))
      ]
    ]

pub earlier_when_less : (word other : List ℕ) → is_lt (slice_cmp nat_cmp word other) ≡ true → IsEarlier word other
earlier_when_less [] [] less = absurd (cc)
earlier_when_less [] (k ∷ other) less = tt
earlier_when_less (j ∷ word) [] less = absurd (cc)
earlier_when_less (j ∷ word) (k ∷ other) less =
    elim (compared j k) [
      | inl (below, is) ↦ inl below
      | inr (inl (same, is)) ↦ inr (same, earlier_when_less word other (rw is at less))
      | inr (inr (above, is)) ↦ absurd (let never = rw is at less in cc)
    ]

behind : (j k : ℕ) (word other : List ℕ) → j ≡ k → IsEarlier (j ∷ word) (k ∷ other) → IsEarlier word other
behind j k word other same (inl less) = absurd (omega (arith, same, less))
behind j k word other same (inr (level, earlier)) = earlier

not_above : (j k : ℕ) (word other : List ℕ) → k < j → IsEarlier (j ∷ word) (k ∷ other) → ⊥
not_above j k word other above (inl less) = omega (arith, above, less)
not_above j k word other above (inr (level, earlier)) = omega (arith, above, level)

pub less_when_earlier : (word other : List ℕ) → IsEarlier word other → is_lt (slice_cmp nat_cmp word other) ≡ true
less_when_earlier [] [] earlier = absurd earlier
less_when_earlier [] (k ∷ other) earlier = refl
less_when_earlier (j ∷ word) [] earlier = absurd earlier
less_when_earlier (j ∷ word) (k ∷ other) earlier =
    elim (compared j k) [
      | inl (below, is) ↦ rw is refl
      | inr (inl (same, is)) ↦ rw is (less_when_earlier word other (behind j k word other same earlier))
      | inr (inr (above, is)) ↦ absurd (not_above j k word other above earlier)
    ]

-- what the comparison of costs and then of words answers
pub before_when_less : (cost : ℕ) (word : List ℕ) (other_cost : ℕ) (other : List ℕ) (less : Bool) → less ≡ is_lt (slice_cmp nat_cmp (cost ∷ word) (other_cost ∷ other)) → (IsTrue less ↔ ComesBefore cost word other_cost other)
before_when_less cost word other_cost other less told =
    (λ yes. earlier_when_less (cost ∷ word) (other_cost ∷ other) (sym told ∙ yes), λ before. told ∙ less_when_earlier (cost ∷ word) (other_cost ∷ other) before)
