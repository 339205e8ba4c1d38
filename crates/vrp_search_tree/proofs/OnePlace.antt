-- Where one element of a list passes a test: which one.
use Rattle.std.proofs.Common.{◌≡◌, ℕ, zero, suc, ◌<◌, Bool, true, false, List, [], ◌∷◌, length, get_or, refl, sym, ap, ◌∙◌, inl, inr, arith}
use Rattle.std.specs.Prelude.{count_by}
use Rattle.std.proofs.lemmas.List.Sums.{sum_by-cons}
use Rattle.vrp_model.specs.Problem.{Problem}
use Rattle.vrp_model.specs.Word.{BeginsWith, IsLawfulWord}
use Rattle.vrp_search_tree.specs.Cutting.{IsCutting, begins_with}
use Rattle.vrp_search_tree.proofs.BeginsCounted.{begins_if, begins_only, either, one_if}

pub record IsOnly {X : Type 0} (test : X → Bool) (xs : List X) (d : X) : Type 0 where
  pub at : ℕ
  pub within : at < length xs
  pub passes : test (get_or xs at d) ≡ true
  pub only : (j : ℕ) → j < length xs → test (get_or xs j d) ≡ true → j ≡ at

none_passes : {X : Type 0} (test : X → Bool) (xs : List X) (d : X) → count_by test xs ≡ 0 → (j : ℕ) → j < length xs → test (get_or xs j d) ≡ true → ⊥
none_passes test [] d none j lt passes = absurd (omega (arith, lt))
none_passes test (x ∷ xs) d none zero lt passes =
    let count = sum_by-cons (λ y. one_if (test y)) x xs in
    let here : one_if (test x) ≡ 1 = ap one_if passes in
    omega (arith, none, count, here)
none_passes test (x ∷ xs) d none (suc j) lt passes =
    let count = sum_by-cons (λ y. one_if (test y)) x xs in
    let rest : count_by test xs ≡ 0 = omega (arith, none, count) in
    none_passes test xs d rest j (omega (arith, lt)) passes

first_is_only : {X : Type 0} (test : X → Bool) (x : X) (xs : List X) (d : X) → count_by test xs ≡ 0 → test x ≡ true → IsOnly test (x ∷ xs) d
first_is_only test x xs d none passes = record {
  at = 0;
  within = omega arith;
  passes = passes;
  only = λ j lt other. elim j as (λ k. k < length (x ∷ xs) → test (get_or (x ∷ xs) k d) ≡ true → k ≡ 0) [
    | zero ↦ λ _ _. refl
    | suc k ↦ λ within also. absurd (none_passes test xs d none k (omega (arith, within)) also)
  ] lt other;
}

later_is_only : {X : Type 0} (test : X → Bool) (x : X) (xs : List X) (d : X) → test x ≡ false → IsOnly test xs d → IsOnly test (x ∷ xs) d
later_is_only test x xs d fails one = record {
  at = suc one.at;
  within = omega (arith, one.within);
  passes = one.passes;
  only = λ j lt other. elim j as (λ k. k < length (x ∷ xs) → test (get_or (x ∷ xs) k d) ≡ true → k ≡ suc one.at) [
    | zero ↦ λ _ also. absurd (let never : false ≡ true = sym fails ∙ also in cc)
    | suc k ↦ λ within also. ap suc (one.only k (omega (arith, within)) also)
  ] lt other;
}

pub one_passes : {X : Type 0} (test : X → Bool) (xs : List X) (d : X) → count_by test xs ≡ 1 → IsOnly test xs d
one_passes test [] d one = absurd (let never : 0 ≡ 1 = one in omega (arith, never))
one_passes test (x ∷ xs) d one =
    let count = sum_by-cons (λ y. one_if (test y)) x xs in
    elim (either (test x)) [
      | inl passes ↦ first_is_only test x xs d (let here : one_if (test x) ≡ 1 = ap one_if passes in omega (arith, one, count, here)) passes
      | inr fails ↦ later_is_only test x xs d fails (one_passes test xs d (let here : one_if (test x) ≡ 0 = ap one_if fails in omega (arith, one, count, here)))
    ]

pub piece_of_word : (p : Problem) (prefixes : List (List ℕ)) (word : List ℕ) → IsCutting p prefixes → IsLawfulWord p word
    → (k : ℕ) × (k < length prefixes) × BeginsWith word (get_or prefixes k []) × ((j : ℕ) → j < length prefixes → BeginsWith word (get_or prefixes j []) → j ≡ k)
piece_of_word p prefixes word cutting lawful =
    let one = one_passes (begins_with word) prefixes [] (cutting.one word lawful) in (
      one.at,
      one.within,
      begins_only word (get_or prefixes one.at []) one.passes,
      λ j lt begins. one.only j lt (begins_if word (get_or prefixes j []) begins),
    )
