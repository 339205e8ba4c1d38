-- The least arcs into the places, as an instance keeps them.
use Rattle.std.specs.Prelude.{◌≡◌, ◌≢◌, ℕ, ◌+◌, ◌*◌, ◌≤◌, ◌<◌, Option, MatchOption, List, length, slice_index}
use Rattle.vrp_model.specs.LeastArc.{IsLeastHome, IsLeastIn}
use Rattle.vrp_model.specs.Problem.{Problem, place_count}

-- the least weight into a place from another place before this one, if there is one
pub record IsLeastBefore (weights : List ℕ) (places to before weight : ℕ) : Type 0 where
  pub met : (from : ℕ) × (from < before) × (from ≢ to) × (weight ≡ slice_index weights (from * places + to))
  pub least : (from : ℕ) → from < before → from ≢ to → weight ≤ slice_index weights (from * places + to)

abbrev pub IsLeastSoFar : List ℕ → ℕ → ℕ → ℕ → Option ℕ → Type 0
IsLeastSoFar weights places to before least = MatchOption least ((from : ℕ) → from < before → from ≡ to) (IsLeastBefore weights places to before)

-- the least weight into a place from all others; 0 if there is none
pub record IsLeastArc (weights : List ℕ) (places to weight : ℕ) : Type 0 where
  pub some : 1 < places → IsLeastBefore weights places to places weight
  pub none : places ≡ 1 → weight ≡ 0

-- the list has the least weight into each place
abbrev pub AreLeastIn : List ℕ → ℕ → List ℕ → Type 0
AreLeastIn weights places least = (to : ℕ) → to < places → IsLeastArc weights places to (slice_index least to)

-- the list has the least arc into each place, and for the depot the least arc home
pub record AreLeastArcs (p : Problem) (least : List ℕ) : Type 0 where
  pub one_each : length least ≡ place_count p
  pub home : IsLeastHome p (slice_index least 0)
  pub each : (to : ℕ) → 0 < to → to < place_count p → IsLeastIn p to (slice_index least to)
