-- Sets of customers. In a clause a set is a number below 2 ^ 256, whose bits are the customers: `bit_at set customer` is 1 for those
-- that are in it and 0 for all others. So `bit_and` is the customers of two sets, `bit_or` those of either, and `count_ones` how many.
use Rattle.std.specs.Prelude.{◌≡◌, ℕ, ◌+◌, ◌*◌, ◌/◌, ◌%◌, ◌^◌, ◌<◌, List, [], ◌∷◌}
use Rattle.std.specs.Int.{bit_at}
use Rattle.std.specs.Int.RustNames.{bit_or}

-- the stops as bits
abbrev pub set_of : List ℕ → ℕ
set_of [] = 0
set_of (stop ∷ stops) = bit_or (2 ^ stop) (set_of stops)

-- the lowest customer of a set
pub record IsFirst (set customer : ℕ) : Type 0 where
  pub within : customer < 256
  pub stands : bit_at set customer ≡ 1
  pub lowest : (lower : ℕ) → lower < customer → bit_at set lower ≡ 0

-- a sum of the four words of a set, all but the lowest times an odd number, as far as it fits one
abbrev pub folded_of : ℕ → ℕ
folded_of set =
    (set % 2 ^ 128 % 2 ^ 64 + set % 2 ^ 128 / 2 ^ 64 * 0x9e37_79b1_85eb_ca87
    + set / 2 ^ 128 % 2 ^ 64 * 0xc2b2_ae3d_27d4_eb4f + set / 2 ^ 128 / 2 ^ 64 * 0x1656_67b1_9e37_79f9) % 2 ^ 64
