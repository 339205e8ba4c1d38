-- Numerals: whole numbers and decimal fractions with a power of ten (TSPLIB 95, section 1: integer and real), and their
-- exact values.
use Rattle.std.specs.Prelude.{ℕ, ◌+◌, ◌*◌, ◌/◌, ◌%◌, ◌^◌, ℤ, pos, neg_ℤ, Bool, ◌&&◌, ◌||◌, ◌==◌, nat_le, if◌then◌else◌, Option, Some, None, Result, Ok, Err, List, [], ◌∷◌, ◌++◌, EachIndex, IsTrue, length, drop, slice_index}
use Rattle.std.specs.Option.{option_and_then}
use Rattle.std.specs.List.{take_while}
use Rattle.std.specs.Char.{is_ascii_digit}
use Rattle.std.specs.Str.Parse.{digits_value}
use Rattle.std.specs.Int.Signed.{le_z}
use Rattle.vrp_text.specs.Bytes.{skip_while}
use Rattle.vrp_text.specs.declared.lexer.fault.FileLineFault.{FileLineFault}
use Rattle.vrp_text.specs.declared.lexer.fault.FileLineFault.TheVariants.{BadNumber, NotWhole}
use Rattle.vrp_text.specs.declared.lexer.limits.TheConstants.{MAX_DIGITS, MAX_POWER, MAX_POWER_DIGITS}

abbrev pub AreDigits : List ℕ → Type 0
AreDigits text = EachIndex text (λ k. IsTrue (is_ascii_digit (slice_index text k)))

abbrev pub is_minus : List ℕ → Bool
is_minus text = slice_index text 0 == 45

-- the text without its optional sign
abbrev pub without_sign : List ℕ → List ℕ
without_sign text = if slice_index text 0 == 43 || slice_index text 0 == 45 then drop 1 text else text

-- the rest behind digits and their point
abbrev pub has_point : List ℕ → Bool
has_point text = slice_index text 0 == 46

-- a power of ten: 10 ^ up / 10 ^ down
pub record Power : Type 0 where
  pub up : ℕ
  pub down : ℕ

-- one to `MAX_POWER_DIGITS` digits, with or without a sign, that write at most `MAX_POWER`
abbrev pub power_of_digits : List ℕ → Option Power
power_of_digits text =
    let digits = without_sign text in
    if ((nat_le 1 (length digits) && nat_le (length digits) MAX_POWER_DIGITS) && length (take_while is_ascii_digit digits) == length digits) && nat_le (digits_value 10 digits) MAX_POWER
    then Some (if is_minus text then record { up = 0; down = digits_value 10 digits } else record { up = digits_value 10 digits; down = 0 })
    else None

-- nothing, or `e` or `E` and a power's digits
abbrev pub power_of : List ℕ → Option Power
power_of [] = Some (record { up = 0; down = 0 })
power_of (letter ∷ text) = if letter == 101 || letter == 69 then power_of_digits text else None

-- digits, with an optional point among, before or behind them, and a power of ten
pub record Numeral : Type 0 where
  pub negative : Bool
  pub digits : List ℕ
  -- how many of the digits are behind the point
  pub places : ℕ
  pub power : Power

-- one to `MAX_DIGITS` digits in all
abbrev pub numeral_with : Bool → List ℕ → List ℕ → Power → Option Numeral
numeral_with negative whole fraction power =
    if nat_le 1 (length (whole ++ fraction)) && nat_le (length (whole ++ fraction)) MAX_DIGITS
    then Some (record { negative = negative; digits = whole ++ fraction; places = length fraction; power = power })
    else None

-- an optional sign, digits with an optional point, and an optional power of ten
abbrev pub numeral_of : List ℕ → Option Numeral
numeral_of text =
    let whole = take_while is_ascii_digit (without_sign text) in
    let behind = skip_while is_ascii_digit (without_sign text) in
    if has_point behind
    then option_and_then (numeral_with (is_minus text) whole (take_while is_ascii_digit (drop 1 behind))) (power_of (skip_while is_ascii_digit (drop 1 behind)))
    else option_and_then (numeral_with (is_minus text) whole []) (power_of behind)

abbrev pub signed : Bool → ℕ → ℤ
signed negative size = if negative then neg_ℤ (pos size) else pos size

-- the exact value, if it is whole
abbrev pub whole_value : Numeral → Option ℤ
whole_value numeral =
    let size = digits_value 10 numeral.digits * 10 ^ numeral.power.up in
    let unit = 10 ^ (numeral.places + numeral.power.down) in
    if size % unit == 0 then Some (signed numeral.negative (size / unit)) else None

abbrev pub in_range : ℤ → ℤ → Option ℤ → Result ℤ FileLineFault
in_range low high None = Err NotWhole
in_range low high (Some value) = if le_z low value && le_z value high then Ok value else Err BadNumber

abbrev pub value_in_range : ℤ → ℤ → Option Numeral → Result ℤ FileLineFault
value_in_range low high None = Err BadNumber
value_in_range low high (Some numeral) = in_range low high (whole_value numeral)

-- the whole number within a range that a token writes
abbrev pub number_of : ℤ → ℤ → List ℕ → Result ℤ FileLineFault
number_of low high token = value_in_range low high (numeral_of token)
