-- Squares, and the whole numbers nearest to their roots.
use Rattle.std.proofs.Common.{◌≡◌, ℕ, zero, suc, ◌+◌, ◌-◌, ◌*◌, ◌<◌, ◌≤◌, inl, inr, arith}
use Rattle.std.proofs.lemmas.Nat.{mul-le}
use Rattle.std.proofs.lemmas.Bool.{cases_lt}
use Rattle.vrp_model.specs.Distance.{IsRoot, IsEuclidean}

pub square_le : (a b : ℕ) → a ≤ b → a * a ≤ b * b
square_le a b h = mul-le a a b b h h

-- 2k - 1, squared, with no subtraction
pub odd_square : (k : ℕ) → 0 < k → (2 * k - 1) * (2 * k - 1) + 4 * k ≡ 4 * (k * k) + 1
odd_square zero h = absurd (omega arith)
odd_square (suc p) h =
    let e : 2 * (suc p) - 1 ≡ 2 * p + 1 = omega arith in rw e (omega arith)

-- the nearest whole number, by the numbers themselves
pub IsEuclidean-between : (s k : ℕ) → s ≤ k * k + k → (0 < k → k * k < s + k) → IsEuclidean s k
IsEuclidean-between s k p q = record {
  below = omega arith;
  above = λ h. omega (arith, odd_square k h, q h);
}

-- no square is nearest to more than one number
IsEuclidean_no_less : (s j k : ℕ) → IsEuclidean s j → IsEuclidean s k → k ≤ j
IsEuclidean_no_less s j k e f =
    elim (cases_lt j k) [
      | inl p ↦ absurd (omega (arith, square_le (2 * j + 1) (2 * k - 1) (omega arith), e.below, f.above (omega arith)))
      | inr q ↦ q
    ]

pub IsEuclidean-one : (s j k : ℕ) → IsEuclidean s j → IsEuclidean s k → j ≡ k
IsEuclidean-one s j k e f = omega (arith, IsEuclidean_no_less s j k e f, IsEuclidean_no_less s k j f e)

-- the longest arc between two points whose coordinates are at most 100,000,000 from 0
pub IsEuclidean-small : (s k : ℕ) → IsEuclidean s k → s ≤ 80000000000000000 → k ≤ 282842712
IsEuclidean-small s k e h =
    elim (cases_lt 282842712 k) [
      | inl p ↦ absurd (omega (arith, square_le 565685425 (2 * k - 1) (omega arith), e.above (omega arith)))
      | inr q ↦ q
    ]

-- what is left of a square past its whole root is at most twice the root
pub IsRoot-next : (s r : ℕ) → IsRoot s r → s < (r + 1) * (r + 1)
IsRoot-next s r root =
    elim (cases_lt s ((r + 1) * (r + 1))) [
      | inl p ↦ p
      | inr q ↦ absurd (omega (arith, root.greatest (r + 1) q))
    ]

pub IsEuclidean-at_root : (s r : ℕ) → IsRoot s r → s - r * r ≤ r → IsEuclidean s r
IsEuclidean-at_root s r root h =
    let w = root.within in
    IsEuclidean-between s r (omega arith) (λ p. omega arith)

pub IsEuclidean-past_root : (s r : ℕ) → IsRoot s r → r < s - r * r → IsEuclidean s (r + 1)
IsEuclidean-past_root s r root h =
    let w = root.within in
    let n = IsRoot-next s r root in
    IsEuclidean-between s (r + 1) (omega arith) (λ p. omega arith)
