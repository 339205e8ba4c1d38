-- The stops as bits of a number: which stand among them, and when two lists have the same ones.
use Rattle.std.proofs.Common.{◌≡◌, ℕ, ◌==◌, ◌^◌, min, max, Bool, true, false, if◌then◌else◌, inl, inr, List, [], ◌∷◌, ◌++◌, get_or, bit_and, eq-eqb, refl, sym, ap, subst, ◌∙◌, arith}
use Rattle.std.specs.Int.{bit_at}
use Rattle.std.specs.Int.RustNames.{bit_or}
use Rattle.std.specs.List.{All, Contains}
use Rattle.std.specs.List.Sorted.{IsPermutation}
use Rattle.std.proofs.lemmas.Bool.{cases_Bool, cases_eq, eqb-true, false≢true, or_cases}
use Rattle.std.proofs.lemmas.List.Folds.{list_any_at}
use Rattle.std.proofs.lemmas.List.Elements.{Contains-get_or}
use Rattle.std.proofs.lemmas.Nat.Bits.{bit_at-lt, bit_at-pow_other, bit_at-pow_same, bit_at-zero, bit_at_and, bit_at_or, same_from_bits}
use Rattle.vrp_model.specs.Word.{stands_in}
use Rattle.vrp_model.proofs.DistinctLists.{AreDistinct, behind_head, same_elements}
use Rattle.vrp_model.proofs.UnservedCustomers.{stands_behind, stands_in-append, stands_last}
use Rattle.vrp_model.specs.CustomerSet.{set_of}

-- ---- standing in a list, as a test and as a fact

stands_contained : (xs : List ℕ) (k : ℕ) → stands_in xs k ≡ true → Contains xs k
stands_contained [] k stands = absurd (false≢true stands)
stands_contained (x ∷ xs) k stands = elim (or_cases (x == k) (stands_in xs k) stands) [
  | inl here ↦ (0, omega arith, eqb-true x k here)
  | inr rest ↦ behind_head x k xs (stands_contained xs k rest)
]

contained_stands : (xs : List ℕ) (k : ℕ) → Contains xs k → stands_in xs k ≡ true
contained_stands xs k (i, lt, is) = list_any_at (λ x. x == k) xs i k lt (eq-eqb (get_or xs i k) k is)

-- ---- a list as a set

abbrev bit_if : Bool → ℕ
bit_if stands = if stands then 1 else 0

-- a bit is set where the stop stands among them
pub bit_of : (stops : List ℕ) (k : ℕ) → bit_at (set_of stops) k ≡ bit_if (stands_in stops k)
bit_of [] k = bit_at-zero k
bit_of (stop ∷ stops) k =
    let both = bit_at_or (2 ^ stop) (set_of stops) k in
    elim (cases_eq stop k) [
      | inl same ↦
          let one : bit_at (2 ^ stop) k ≡ 1 = ap (bit_at (2 ^ stop)) (sym same) ∙ bit_at-pow_same stop in
          let stands : stands_in (stop ∷ stops) k ≡ true = contained_stands (stop ∷ stops) k (0, omega arith, same) in
          let two = bit_at-lt (set_of stops) k in
          both ∙ (let is : max (bit_at (2 ^ stop) k) (bit_at (set_of stops) k) ≡ 1 = omega (arith, one, two) in is) ∙ ap bit_if (sym stands)
      | inr other ↦
          let none : bit_at (2 ^ stop) k ≡ 0 = bit_at-pow_other stop k (λ same. other (sym same)) in
          both ∙ (let is : max (bit_at (2 ^ stop) k) (bit_at (set_of stops) k) ≡ bit_at (set_of stops) k = omega (arith, none) in is) ∙ bit_of stops k ∙ ap bit_if (sym (stands_behind stop k stops other))
    ]

pub set_with : (stops : List ℕ) (k : ℕ) → set_of (stops ++ k ∷ []) ≡ bit_or (set_of stops) (2 ^ k)
set_with stops k = same_from_bits (set_of (stops ++ k ∷ [])) (bit_or (set_of stops) (2 ^ k)) (λ i.
    let both = bit_at_or (set_of stops) (2 ^ k) i in
    elim (cases_eq k i) [
      | inl same ↦
          let one : bit_at (2 ^ k) i ≡ 1 = ap (bit_at (2 ^ k)) (sym same) ∙ bit_at-pow_same k in
          let stands : stands_in (stops ++ k ∷ []) i ≡ true = ap (stands_in (stops ++ k ∷ [])) (sym same) ∙ stands_last stops k in
          let two = bit_at-lt (set_of stops) i in
          bit_of (stops ++ k ∷ []) i ∙ ap bit_if stands ∙ sym (both ∙ (let is : max (bit_at (set_of stops) i) (bit_at (2 ^ k) i) ≡ 1 = omega (arith, one, two) in is))
      | inr other ↦
          let none : bit_at (2 ^ k) i ≡ 0 = bit_at-pow_other k i (λ same. other (sym same)) in
          bit_of (stops ++ k ∷ []) i ∙ ap bit_if (stands_in-append stops k i (λ same. other (sym same))) ∙ sym (bit_of stops i) ∙ sym (both ∙ (let is : max (bit_at (set_of stops) i) (bit_at (2 ^ k) i) ≡ bit_at (set_of stops) i = omega (arith, none) in is))
    ])

bits_differ : (stands other : Bool) → bit_if stands ≡ bit_if other → other ≡ true → stands ≡ true
bits_differ true other same is = refl
bits_differ false true same is = absurd (omega (arith, same))
bits_differ false false same is = is

among_same : (xs ys : List ℕ) → set_of xs ≡ set_of ys → All (Contains xs) ys
among_same xs ys same i d lt =
    let k = get_or ys i d in
    let here : stands_in ys k ≡ true = contained_stands ys k (Contains-get_or ys i d lt) in
    stands_contained xs k (bits_differ (stands_in xs k) (stands_in ys k) (sym (bit_of xs k) ∙ ap (λ n. bit_at n k) same ∙ bit_of ys k) here)

-- distinct stops with the same set are a rearrangement
pub same_set : (xs ys : List ℕ) → AreDistinct xs → AreDistinct ys → set_of xs ≡ set_of ys → IsPermutation xs ys
same_set xs ys one other same = same_elements ys xs one other (among_same xs ys same) (among_same ys xs (sym same))

-- sets that share no bit are of stops none of which stands in both
pub disjoint_sets : (xs ys : List ℕ) → bit_and (set_of xs) (set_of ys) ≡ 0 → All (λ k. stands_in xs k ≡ false) ys
disjoint_sets xs ys none i d lt =
    let k = get_or ys i d in
    let here : bit_at (set_of ys) k ≡ 1 = bit_of ys k ∙ ap bit_if (contained_stands ys k (Contains-get_or ys i d lt)) in
    let both : min (bit_at (set_of xs) k) (bit_at (set_of ys) k) ≡ 0 = sym (bit_at_and (set_of xs) (set_of ys) k) ∙ ap (λ n. bit_at n k) none ∙ bit_at-zero k in
    elim (cases_Bool (stands_in xs k)) [
      | inl stands ↦ absurd (let there : bit_at (set_of xs) k ≡ 1 = bit_of xs k ∙ ap bit_if stands in omega (arith, here, there, both))
      | inr not ↦ not
    ]

-- and the other way round
pub shared_bit : (xs ys : List ℕ) → All (λ k. stands_in xs k ≡ false) ys → bit_and (set_of xs) (set_of ys) ≡ 0
shared_bit xs ys apart = same_from_bits (bit_and (set_of xs) (set_of ys)) 0 (λ k.
    let both = bit_at_and (set_of xs) (set_of ys) k in
    let one = bit_at-lt (set_of xs) k in
    let two = bit_at-lt (set_of ys) k in
    elim (cases_Bool (stands_in ys k)) [
      | inl stands ↦
          let (i, lt, is) = stands_contained ys k stands in
          let away : stands_in xs k ≡ false = subst (λ n. stands_in xs n ≡ false) is (apart i k lt) in
          let none : bit_at (set_of xs) k ≡ 0 = bit_of xs k ∙ ap bit_if away in
          both ∙ (let is : min (bit_at (set_of xs) k) (bit_at (set_of ys) k) ≡ 0 = omega (arith, none) in is) ∙ sym (bit_at-zero k)
      | inr not ↦
          let none : bit_at (set_of ys) k ≡ 0 = bit_of ys k ∙ ap bit_if not in
          both ∙ (let is : min (bit_at (set_of xs) k) (bit_at (set_of ys) k) ≡ 0 = omega (arith, none) in is) ∙ sym (bit_at-zero k)
    ])

-- ---- the bit as a test

pub stands_if_set : (stops : List ℕ) (k : ℕ) → bit_at (set_of stops) k ≡ 1 → stands_in stops k ≡ true
stands_if_set stops k is = bits_differ (stands_in stops k) true (sym (bit_of stops k) ∙ is) refl

pub stands_not_if_not_set : (stops : List ℕ) (k : ℕ) → (bit_at (set_of stops) k ≡ 1 → ⊥) → stands_in stops k ≡ false
stands_not_if_not_set stops k isnt =
    elim (cases_Bool (stands_in stops k)) [
      | inl stands ↦ absurd (isnt (bit_of stops k ∙ ap bit_if stands))
      | inr not ↦ not
    ]
