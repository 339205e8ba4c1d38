-- A quotient that is rounded up to a hundredth, and then to a whole.
use Rattle.std.proofs.Common.{◌≡◌, ℕ, zero, suc, ◌+◌, ◌*◌, ◌/◌, ◌%◌, ◌<◌, ◌≤◌, inl, inr, arith}
use Rattle.std.specs.Int.{div_ceil}
use Rattle.std.proofs.lemmas.Bool.{cases_lt}
use Rattle.std.proofs.lemmas.Grind.{div_ceil_times}
use Rattle.std.proofs.lemmas.Nat.{div-add-mod', mod_below, mul-le}

-- a whole with no hundredths, or with some
whole_only : (whole : ℕ) → div_ceil (100 * whole + 0) 100 ≡ whole
whole_only whole = let times = div_ceil_times (100 * whole + 0) 100 (omega arith) in omega (arith, times.0, times.1)

whole_and_part : (whole part : ℕ) → 0 < part → part ≤ 100 → div_ceil (100 * whole + part) 100 ≡ whole + 1
whole_and_part whole part some few = let times = div_ceil_times (100 * whole + part) 100 (omega arith) in omega (arith, times.0, times.1, some, few)

-- so many hundredths has what is left of a whole
no_hundredths : (scale : ℕ) → 1 ≤ scale → div_ceil (100 * 0) scale ≡ 0
no_hundredths scale some =
    let times = div_ceil_times (100 * 0) scale (omega (arith, some)) in
    elim (cases_lt 0 (div_ceil (100 * 0) scale)) [
      | inl more ↦ absurd (omega (arith, times.1, mul-le 1 scale (div_ceil (100 * 0) scale) scale (omega (arith, more)) (omega arith)))
      | inr none ↦ omega (arith, none)
    ]

some_hundredths : (scale rest : ℕ) → rest < scale → 0 < rest → 0 < div_ceil (100 * rest) scale
some_hundredths scale rest below some =
    let times = div_ceil_times (100 * rest) scale (omega (arith, below)) in
    elim (cases_lt 0 (div_ceil (100 * rest) scale)) [
      | inl more ↦ more
      | inr none ↦ absurd (omega (arith, some, times.0, mul-le (div_ceil (100 * rest) scale) scale 0 scale (omega (arith, none)) (omega arith)))
    ]

few_hundredths : (scale rest : ℕ) → rest < scale → div_ceil (100 * rest) scale ≤ 100
few_hundredths scale rest below =
    let times = div_ceil_times (100 * rest) scale (omega (arith, below)) in
    elim (cases_lt 100 (div_ceil (100 * rest) scale)) [
      | inl more ↦ absurd (omega (arith, below, times.1, mul-le 101 scale (div_ceil (100 * rest) scale) scale (omega (arith, more)) (omega arith)))
      | inr few ↦ few
    ]

-- the least whole number that is no less than a quotient
pub record IsQuotientUp (scaled scale up : ℕ) : Type 0 where
  pub low : (cost : ℕ) → scaled ≤ scale * cost → up ≤ cost
  pub reached : scaled ≤ scale * up

least_whole : (scaled scale whole rest : ℕ) → 1 ≤ scale → whole * scale + rest ≡ scaled → rest < scale → (cost : ℕ) → scaled ≤ scale * cost → whole ≤ cost
least_whole scaled scale whole rest some parts below cost covers = elim (cases_lt cost whole) [
  | inl less ↦ absurd (omega (arith, some, parts, covers, mul-le (cost + 1) scale whole scale (omega (arith, less)) (omega arith)))
  | inr within ↦ within
]

above_whole : (scaled scale whole rest : ℕ) → whole * scale + rest ≡ scaled → 0 < rest → (cost : ℕ) → scaled ≤ scale * cost → whole + 1 ≤ cost
above_whole scaled scale whole rest parts more cost covers = elim (cases_lt whole cost) [
  | inl above ↦ omega (arith, above)
  | inr within ↦ absurd (omega (arith, parts, more, covers, mul-le cost scale whole scale within (omega arith)))
]

quotient_parts : (scaled scale whole rest : ℕ) → 1 ≤ scale → whole * scale + rest ≡ scaled → rest < scale → IsQuotientUp scaled scale (div_ceil (100 * whole + div_ceil (100 * rest) scale) 100)
quotient_parts scaled scale whole zero some parts below =
    let none = no_hundredths scale some in
    let up : div_ceil (100 * whole + div_ceil (100 * 0) scale) 100 ≡ whole = rw (none) (whole_only whole) in
    record {
      low = λ cost covers. omega (arith, up, least_whole scaled scale whole 0 some parts below cost covers);
      reached = rw (up) (omega (arith, parts));
    }
quotient_parts scaled scale whole (suc k) some parts below =
    let rest = suc k in
    let up = whole_and_part whole (div_ceil (100 * rest) scale) (some_hundredths scale rest below (omega arith)) (few_hundredths scale rest below) in
    record {
      low = λ cost covers. omega (arith, up, above_whole scaled scale whole rest parts (omega arith) cost covers);
      reached = rw (up) (omega (arith, parts, below));
    }

pub quotient_up : (scaled scale : ℕ) → 1 ≤ scale → IsQuotientUp scaled scale (div_ceil (100 * (scaled / scale) + div_ceil (100 * (scaled % scale)) scale) 100)
quotient_up scaled scale some = quotient_parts scaled scale (scaled / scale) (scaled % scale) some (div-add-mod' scaled scale) (mod_below scaled scale (omega (arith, some)))

-- the least hundredths that are no less than a hundred quotients
pub record IsHundredthsUp (scaled scale up : ℕ) : Type 0 where
  pub least : (hundredths : ℕ) → 100 * scaled ≤ scale * hundredths → up ≤ hundredths
  pub enough : 100 * scaled ≤ scale * up

hundredths_of_parts : (scaled scale whole rest part : ℕ) → whole * scale + rest ≡ scaled → 100 * rest ≤ part * scale → part * scale < 100 * rest + scale → IsHundredthsUp scaled scale (100 * whole + part)
hundredths_of_parts scaled scale whole rest part parts covered tight = record {
  least = λ other covers. elim (cases_lt other (100 * whole + part)) [
    | inl less ↦ absurd (omega (arith, parts, tight, covers, mul-le (other + 1) scale (100 * whole + part) scale (omega (arith, less)) (omega arith)))
    | inr within ↦ within
  ];
  enough = omega (arith, parts, covered);
}

pub hundredths_up : (scaled scale : ℕ) → 1 ≤ scale → IsHundredthsUp scaled scale (100 * (scaled / scale) + div_ceil (100 * (scaled % scale)) scale)
hundredths_up scaled scale some =
    let times = div_ceil_times (100 * (scaled % scale)) scale (omega (arith, some)) in
    hundredths_of_parts scaled scale (scaled / scale) (scaled % scale) (div_ceil (100 * (scaled % scale)) scale) (div-add-mod' scaled scale) (omega (arith, times.0)) (omega (arith, times.1))
