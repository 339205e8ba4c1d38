-- A symmetric square of weights.
use Rattle.std.specs.Prelude.{◌≡◌, ℕ, ◌+◌, ◌*◌, ◌<◌, List, slice_index}

-- symmetric between a place and each one before it
abbrev pub IsSameBack : List ℕ → ℕ → ℕ → Type 0
IsSameBack weights places from = (to : ℕ) → to < from → slice_index weights (from * places + to) ≡ slice_index weights (to * places + from)

-- symmetric between any two places
abbrev pub IsSymmetricSquare : List ℕ → ℕ → Type 0
IsSymmetricSquare weights places = (from to : ℕ) → from < places → to < places → slice_index weights (from * places + to) ≡ slice_index weights (to * places + from)
