-- The least number with a property, found by looking.
use Rattle.std.proofs.Common.{◌≡◌, ◌⊎◌, ℕ, zero, suc, ◌<◌, ◌≤◌, inl, inr, subst, arith}
use Rattle.std.proofs.lemmas.Bool.{cases_lt}

-- a number has the property, and no lower one has it
pub record IsLeastWith (P : ℕ → Type 0) (k : ℕ) : Type 0 where
  pub has : P k
  pub least : (j : ℕ) → P j → k ≤ j

-- a fact holds or does not
abbrev pub IsDecided : Type 0 → Type 0
IsDecided P = P ⊎ (P → ⊥)

-- no number below n has the property
abbrev pub NoneBelow : (ℕ → Type 0) → ℕ → Type 0
NoneBelow P n = (j : ℕ) → j < n → P j → ⊥

-- what has the property is not below n
not_below : (P : ℕ → Type 0) (n j : ℕ) → NoneBelow P n → P j → n ≤ j
not_below P n j none here = elim (cases_lt j n) [
  | inl below ↦ absurd (none j below here)
  | inr past ↦ past
]

-- a number is the least with the property, or none below n has it
pub least_or_none : (P : ℕ → Type 0) → ((k : ℕ) → IsDecided (P k)) → (n : ℕ) → ((k : ℕ) × IsLeastWith P k) ⊎ NoneBelow P n
least_or_none P decide zero = inr (λ j below. absurd (omega arith))
least_or_none P decide (suc n) = elim (least_or_none P decide n) [
  | inl found ↦ inl found
  | inr none ↦ elim (decide n) [
    | inl here ↦ inl (n, record { has = here; least = λ j there. not_below P n j none there })
    | inr gone ↦ inr (λ j below there. elim (cases_lt j n) [
      | inl before ↦ none j before there
      | inr last ↦ let same : j ≡ n = omega arith in gone (subst P same there)
    ])
  ]
]

-- where a number has the property, one is the least
pub least_with : (P : ℕ → Type 0) → ((k : ℕ) → IsDecided (P k)) → (n : ℕ) → P n → (k : ℕ) × IsLeastWith P k
least_with P decide n here = elim (least_or_none P decide (suc n)) [
  | inl found ↦ found
  | inr none ↦ absurd (none n (omega arith) here)
]
