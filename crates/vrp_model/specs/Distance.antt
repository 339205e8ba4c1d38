-- Distances between points in the plane, as in TSPLIB 95 (section 2, "The distance functions"), but in exact arithmetic.
use Rattle.std.specs.Prelude.{◌≡◌, ℕ, ◌+◌, ◌-◌, ◌*◌, ◌≤◌, ◌<◌, max, ℤ, ◌-ℤ◌, unsigned_abs}
use Rattle.vrp_model.specs.declared.metric.Metric.{Metric}
use Rattle.vrp_model.specs.declared.metric.Metric.TheVariants.{Euc2d, Ceil2d, Man2d, Max2d, Att}

-- the integer square root
pub record IsRoot (x k : ℕ) : Type 0 where
  pub within : k * k ≤ x
  pub greatest : (j : ℕ) → j * j ≤ x → j ≤ k

-- the square of the straight-line distance of two points
abbrev pub square_between : ℤ × ℤ → ℤ × ℤ → ℕ
square_between a b =
    let east = unsigned_abs (a.0 -ℤ b.0) in
    let north = unsigned_abs (a.1 -ℤ b.1) in
    east * east + north * north

-- the whole number k nearest to the root of s: 2k - 1 ≤ 2 * root < 2k + 1
pub record IsEuclidean (s k : ℕ) : Type 0 where
  pub below : 4 * s < (2 * k + 1) * (2 * k + 1)
  pub above : 0 < k → (2 * k - 1) * (2 * k - 1) ≤ 4 * s

-- the root of s, rounded up
pub record IsCeiling (s k : ℕ) : Type 0 where
  pub reaches : s ≤ k * k
  pub least : (j : ℕ) → s ≤ j * j → k ≤ j

-- the least k with 10 k² ≥ s
pub record IsPseudoEuclidean (s k : ℕ) : Type 0 where
  pub reaches : s ≤ 10 * (k * k)
  pub least : (j : ℕ) → s ≤ 10 * (j * j) → k ≤ j

-- the sum of the coordinates' differences
abbrev pub manhattan : ℤ × ℤ → ℤ × ℤ → ℕ
manhattan a b = unsigned_abs (a.0 -ℤ b.0) + unsigned_abs (a.1 -ℤ b.1)

-- the greater of the two coordinates' differences
abbrev pub maximum : ℤ × ℤ → ℤ × ℤ → ℕ
maximum a b = max (unsigned_abs (a.0 -ℤ b.0)) (unsigned_abs (a.1 -ℤ b.1))

-- the weight that a metric gives to the arc between two points
abbrev pub IsDistance : Metric → ℤ × ℤ → ℤ × ℤ → ℕ → Type 0
IsDistance Euc2d a b weight = IsEuclidean (square_between a b) weight
IsDistance Ceil2d a b weight = IsCeiling (square_between a b) weight
IsDistance Man2d a b weight = weight ≡ manhattan a b
IsDistance Max2d a b weight = weight ≡ maximum a b
IsDistance Att a b weight = IsPseudoEuclidean (square_between a b) weight
