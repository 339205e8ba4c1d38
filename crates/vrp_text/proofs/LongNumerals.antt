-- A text of more than 26 bytes is no numeral.
use Rattle.std.proofs.Common.{◌≡◌, ℕ, ◌+◌, ◌-◌, ◌<◌, ◌≤◌, Bool, true, false, cond, ◌&&◌, ◌||◌, ◌==◌, nat_le, Option, Some, None, List, [], ◌∷◌, ◌++◌, length, drop, refl, ap, inl, inr, slice_index, arith, length-append, length-drop}
use Rattle.std.specs.Char.{is_ascii_digit}
use Rattle.std.specs.List.{prefix_len, take_while}
use Rattle.std.specs.Option.{option_and_then}
use Rattle.std.specs.Str.Parse.{digits_value}
use Rattle.std.proofs.lemmas.Bool.{and_left, and_right, cond-false, cases_lt}
use Rattle.std.proofs.lemmas.Bool.Decides.{nat_tests}
use Rattle.std.proofs.lemmas.List.Folds.{length-prefix_len}
use Rattle.std.proofs.lemmas.List.Sums.{prefix_len-le-length}
use Rattle.vrp_text.specs.Bytes.{skip_while}
use Rattle.vrp_text.specs.Numeral.{Power, Numeral, is_minus, without_sign, has_point, power_of_digits, power_of, numeral_with, numeral_of}

both_none : {X : Type 0} (test : Bool) (x y : Option X) → x ≡ None → y ≡ None → cond test x y ≡ None
both_none true x y left right = left
both_none false x y left right = right

both_least : (test : Bool) (n : ℕ) (xs ys : List ℕ) → n ≤ length xs → n ≤ length ys → n ≤ length (cond test xs ys)
both_least true n xs ys left right = left
both_least false n xs ys left right = right

unsigned_length : (text : List ℕ) → length text - 1 ≤ length (without_sign text)
unsigned_length text = both_least (slice_index text 0 == 43 || slice_index text 0 == 45) (length text - 1) (drop 1 text) text (omega (arith, length-drop 1 text)) (omega arith)

power_of_digits_long : (text : List ℕ) → 5 < length text → power_of_digits text ≡ None
power_of_digits_long text long =
    let digits = without_sign text in
    let many : nat_le (length digits) 4 ≡ false = grind (arith, nat_tests, unsigned_length text) in
    let fails = and_left ((nat_le 1 (length digits) && nat_le (length digits) 4) && length (take_while is_ascii_digit digits) == length digits) (nat_le (digits_value 10 digits) 18)
    (and_left (nat_le 1 (length digits) && nat_le (length digits) 4) (length (take_while is_ascii_digit digits) == length digits) (and_right (nat_le 1 (length digits)) (nat_le (length digits) 4) many)) in
    cond-false _ _ None fails

power_of_long : (text : List ℕ) → 6 < length text → power_of text ≡ None
power_of_long [] long = absurd (omega arith)
power_of_long (letter ∷ text) long = both_none (letter == 101 || letter == 69) (power_of_digits text) None (power_of_digits_long text (omega arith)) refl

numeral_with_long : (negative : Bool) (whole fraction : List ℕ) (power : Power) → 18 < length (whole ++ fraction) → numeral_with negative whole fraction power ≡ None
numeral_with_long negative whole fraction power long =
    let many : nat_le (length (whole ++ fraction)) 18 ≡ false = grind (arith, nat_tests) in
    cond-false _ _ None (and_right (nat_le 1 (length (whole ++ fraction))) (nat_le (length (whole ++ fraction)) 18) many)

no_power : (f : Power → Option Numeral) (power : Option Power) → ((p : Power) → f p ≡ None) → option_and_then f power ≡ None
no_power f None none = refl
no_power f (Some power) none = none power

parts_long : (negative : Bool) (whole fraction text : List ℕ) → 24 < length (whole ++ fraction) + length text → option_and_then (numeral_with negative whole fraction) (power_of text) ≡ None
parts_long negative whole fraction text long = elim (cases_lt 18 (length (whole ++ fraction))) [
  | inl many ↦ no_power (numeral_with negative whole fraction) (power_of text) (λ power. numeral_with_long negative whole fraction power many)
  | inr few ↦ ap (option_and_then (numeral_with negative whole fraction)) (power_of_long text (omega arith))
]

split_length : (text : List ℕ) → length (take_while is_ascii_digit text) + length (skip_while is_ascii_digit text) ≡ length text
split_length text =
    let front = length-prefix_len is_ascii_digit text in
    let behind = length-drop (prefix_len is_ascii_digit text) text in
    omega (arith, front, behind, prefix_len-le-length is_ascii_digit text)

-- a text that is longer than any numeral is none
pub long_no_numeral : (text : List ℕ) → 26 < length text → numeral_of text ≡ None
long_no_numeral text long =
    let unsigned = without_sign text in
    let whole = take_while is_ascii_digit unsigned in
    let behind = skip_while is_ascii_digit unsigned in
    let fraction = take_while is_ascii_digit (drop 1 behind) in
    let power = skip_while is_ascii_digit (drop 1 behind) in
    let first = unsigned_length text in
    let second : length whole + length behind ≡ length unsigned = split_length unsigned in
    let third : length fraction + length power ≡ length (drop 1 behind) = split_length (drop 1 behind) in
    let dropped : length (drop 1 behind) ≡ length behind - 1 = length-drop 1 behind in
    let some : length (whole ++ fraction) ≡ length whole + length fraction = length-append whole fraction in
    let none : length (whole ++ []) ≡ length whole + 0 = length-append whole [] in
    both_none (has_point behind) (option_and_then (numeral_with (is_minus text) whole fraction) (power_of power)) (option_and_then (numeral_with (is_minus text) whole []) (power_of behind))
    (parts_long (is_minus text) whole fraction power (omega (arith, first, second, third, dropped, some)))
    (parts_long (is_minus text) whole [] behind (omega (arith, first, second, none)))
