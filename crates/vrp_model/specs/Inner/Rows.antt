-- A grid of distances while it is written, row by row.
use Rattle.std.specs.Prelude.{◌≡◌, ℕ, ◌+◌, ◌*◌, ◌≤◌, ◌<◌, ℤ, Some, List, length, slice_get, slice_index}
use Rattle.vrp_model.specs.declared.metric.Metric.{Metric}
use Rattle.vrp_model.specs.Distance.{IsDistance}
use Rattle.vrp_model.specs.declared.limits.TheConstants.{MAX_WEIGHT}

-- the weight is the distance between two points of a list
abbrev pub IsDistanceAt : Metric → List (ℤ × ℤ) → ℕ → ℕ → ℕ → Type 0
IsDistanceAt metric points i j weight =
    (from to : ℤ × ℤ) → slice_get points i ≡ Some from → slice_get points j ≡ Some to → IsDistance metric from to weight

-- each entry so far is the distance between its row's point and its column's point
pub record AreDistances (metric : Metric) (points : List (ℤ × ℤ)) (entries : List ℕ) : Type 0 where
  pub each : (i j : ℕ) → j < length points → i * length points + j < length entries → IsDistanceAt metric points i j (slice_index entries (i * length points + j))
  pub small : (k : ℕ) → slice_index entries k ≤ MAX_WEIGHT
