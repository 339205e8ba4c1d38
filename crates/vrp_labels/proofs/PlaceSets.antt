-- Sets of places with one place more.
use Rattle.std.proofs.Common.{◌≡◌, ◌⊎◌, inl, inr, ℕ, ◌<◌, ◌^◌, sym, ◌∙◌, ap, arith, bit_or, max}
use Rattle.std.specs.Int.{bit_at}
use Rattle.std.proofs.lemmas.Bool.{cases_eq}
use Rattle.std.proofs.lemmas.Nat.Bits.{bit_at-lt, bit_at-pow_other, bit_at-pow_same, bit_at_or}

-- what the set has it still has
pub with_still : (set place next j : ℕ) → next ≡ bit_or set (2 ^ place) → bit_at set j ≡ 1 → bit_at next j ≡ 1
with_still set place next j is has = ap (λ n. bit_at n j) is ∙ (bit_at_or set (2 ^ place) j ∙ low (bit_at set j) (bit_at (2 ^ place) j) has (bit_at-lt (2 ^ place) j))
  where
    low : (x y : ℕ) → x ≡ 1 → y < 2 → max x y ≡ 1
    low x y one lt = omega arith

-- and no other but the place
pub with_cases : (set place next j : ℕ) → next ≡ bit_or set (2 ^ place) → bit_at next j ≡ 1 → (place ≡ j) ⊎ (bit_at set j ≡ 1)
with_cases set place next j is has = elim (cases_eq place j) [
  | inl same ↦ inl same
  | inr other ↦ inr (kept (bit_at next j) (bit_at set j) (bit_at (2 ^ place) j) (ap (λ n. bit_at n j) is ∙ bit_at_or set (2 ^ place) j) (bit_at-pow_other place j (λ same. other (sym same))) has)
]
  where
    kept : (n s p : ℕ) → n ≡ max s p → p ≡ 0 → n ≡ 1 → s ≡ 1
    kept n s p e f one = omega arith

-- another place is in it if it was before
pub with_other : (set place next j : ℕ) → next ≡ bit_or set (2 ^ place) → (j ≡ place → ⊥) → bit_at next j ≡ bit_at set j
with_other set place next j is other = ap (λ n. bit_at n j) is ∙ (bit_at_or set (2 ^ place) j ∙ low (bit_at set j) (bit_at (2 ^ place) j) (bit_at-pow_other place j other))
  where
    low : (s p : ℕ) → p ≡ 0 → max s p ≡ s
    low s p none = omega arith

-- and the place
pub with_one : (set place next : ℕ) → next ≡ bit_or set (2 ^ place) → bit_at next place ≡ 1
with_one set place next is = ap (λ n. bit_at n place) is ∙ (bit_at_or set (2 ^ place) place ∙ low (bit_at set place) (bit_at (2 ^ place) place) (bit_at-pow_same place) (bit_at-lt set place))
  where
    low : (x y : ℕ) → y ≡ 1 → x < 2 → max x y ≡ 1
    low x y one lt = omega arith
