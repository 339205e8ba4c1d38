-- Each metric gives two points a distance.
use Rattle.std.proofs.Common.{◌≡◌, ℕ, zero, suc, ◌+◌, ◌-◌, ◌*◌, ◌<◌, ◌≤◌, ℤ, inl, inr, refl, arith}
use Rattle.std.proofs.lemmas.Bool.{cases_lt}
use Rattle.std.proofs.lemmas.Nat.{mul-le}
use Rattle.vrp_model.specs.Distance.{IsCeiling, IsDistance, IsEuclidean, IsPseudoEuclidean, manhattan, maximum, square_between}
use Rattle.vrp_model.specs.declared.metric.Metric.{Metric}
use Rattle.vrp_model.specs.declared.metric.Metric.TheVariants.{Euc2d, Ceil2d, Man2d, Max2d, Att}
use Rattle.vrp_text.proofs.LeastSearch.{IsDecided, least_with}

decide_le : (a b : ℕ) → IsDecided (a ≤ b)
decide_le a b = elim (cases_lt b a) [
  | inl less ↦ inr (λ h. absurd (omega arith))
  | inr here ↦ inl here
]

square_reaches : (s : ℕ) → s ≤ s * s
square_reaches zero = omega arith
square_reaches (suc p) = omega (arith, mul-le 1 (suc p) (suc p) (suc p) (omega arith) (omega arith))

some_ceiling : (s : ℕ) → (k : ℕ) × IsCeiling s k
some_ceiling s =
    let found = least_with (λ k. s ≤ k * k) (λ k. decide_le s (k * k)) s (square_reaches s) in
    (found.0, record { reaches = found.1.has; least = found.1.least })

some_pseudo_euclidean : (s : ℕ) → (k : ℕ) × IsPseudoEuclidean s k
some_pseudo_euclidean s =
    let found = least_with (λ k. s ≤ 10 * (k * k)) (λ k. decide_le s (10 * (k * k))) s (omega (arith, square_reaches s)) in
    (found.0, record { reaches = found.1.has; least = found.1.least })

-- the nearest number is the least that is not too small
abbrev IsNotBelow : ℕ → ℕ → Type 0
IsNotBelow s k = 4 * s < (2 * k + 1) * (2 * k + 1)

some_euclidean : (s : ℕ) → (k : ℕ) × IsEuclidean s k
some_euclidean s =
    let found = least_with (IsNotBelow s) (λ k. decide_le (suc (4 * s)) ((2 * k + 1) * (2 * k + 1))) s (omega (arith, square_reaches s)) in
    let k : ℕ = found.0 in (
      k,
      record {
        below = found.1.has;
        above = λ some. elim (cases_lt (4 * s) ((2 * (k - 1) + 1) * (2 * (k - 1) + 1))) [
          | inl less ↦ absurd (omega (arith, found.1.least (k - 1) less))
          | inr more ↦ let odd : 2 * k - 1 ≡ 2 * (k - 1) + 1 = omega arith in rw odd more
        ];
      },
    )

-- each metric gives two points a distance
pub some_distance : (metric : Metric) (a b : ℤ × ℤ) → (k : ℕ) × IsDistance metric a b k
some_distance Euc2d a b = some_euclidean (square_between a b)
some_distance Ceil2d a b = some_ceiling (square_between a b)
some_distance Man2d a b = (manhattan a b, refl)
some_distance Max2d a b = (maximum a b, refl)
some_distance Att a b = some_pseudo_euclidean (square_between a b)
