-- The customers near each place.
use Rattle.std.specs.Prelude.{ℕ, ◌+◌, ◌*◌, List, slice_range}

-- the same number of customers for each place, one place after another
pub record NearOf : Type 0 where
  pub places : ℕ
  pub size : ℕ
  pub listed : List ℕ

-- the near customers in this list
abbrev pub listing : ℕ → ℕ → List ℕ → NearOf
listing places size listed = record { places = places; size = size; listed = listed }

-- the customers near a place
abbrev pub near_in : NearOf → ℕ → List ℕ
near_in near place = slice_range near.listed (place * near.size) (place * near.size + near.size)
