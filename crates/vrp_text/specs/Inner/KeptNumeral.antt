-- Numerals as the program keeps them: all digits form one number.
use Rattle.std.specs.Prelude.{◌+◌, ◌*◌, ◌^◌, ◌/◌, ◌%◌, ◌==◌, ◌<◌, ◌≤◌, ℤ, if◌then◌else◌, Option, Some, None}
use Rattle.std.specs.Str.Parse.{digits_value}
use Rattle.vrp_text.specs.Numeral as written
use Rattle.vrp_text.specs.declared.lexer.numeral.Power.{Power}
use Rattle.vrp_text.specs.declared.lexer.numeral.Numeral.{Numeral}
use Rattle.vrp_text.specs.declared.lexer.limits.TheConstants.{MAX_DIGITS, MAX_POWER}

abbrev pub written_power : Power → written.Power
written_power power = record { up = power.up; down = power.down }

abbrev pub read_power : written.Power → Power
read_power power = record { up = power.up; down = power.down }

abbrev pub read_numeral : written.Numeral → Numeral
read_numeral numeral = record { negative = numeral.negative; digits = digits_value 10 numeral.digits; places = numeral.places; power = read_power numeral.power }

-- the exact value, if it is whole
abbrev pub read_value : Numeral → Option ℤ
read_value numeral =
    let size = numeral.digits * 10 ^ numeral.power.up in
    let unit = 10 ^ (numeral.places + numeral.power.down) in
    if size % unit == 0 then Some (written.signed numeral.negative (size / unit)) else None

pub record IsSmallPower (power : Power) : Type 0 where
  pub up : power.up ≤ MAX_POWER
  pub down : power.down ≤ MAX_POWER

pub record IsSmallNumeral (numeral : Numeral) : Type 0 where
  pub digits : numeral.digits < 10 ^ MAX_DIGITS
  pub places : numeral.places ≤ MAX_DIGITS
  pub power : IsSmallPower numeral.power
