-- Digits, and the numbers that they write.
use Rattle.std.proofs.Common.{◌≡◌, ◌/◌, ◌%◌, ◌==◌, if◌then◌else◌, ℤ, pos, ◌-ℤ◌, to_z, of_z, ℕ, ◌+◌, ◌-◌, ◌*◌, ◌^◌, ◌<◌, ◌≤◌, Bool, true, false, cond, ◌&&◌, nat_le, Option, Some, None, option_map, List, [], ◌∷◌, ◌++◌, length, get_or, take, drop, refl, sym, ap, ◌∙◌, IsTrue, length-append, arith}
use Rattle.std.specs.Char.{is_ascii_digit, digit_value}
use Rattle.std.specs.List.{prefix_len, take_while}
use Rattle.std.specs.Str.Parse.{digits_value_after}
use Rattle.std.proofs.lemmas.Bool.Decides.{nat_tests}
use Rattle.std.proofs.lemmas.List.{take_more, get_or-take}
use Rattle.std.proofs.lemmas.List.Sums.{prefix_len_passes}
use Rattle.std.proofs.lemmas.List.Folds.{length-prefix_len}
use Rattle.std.proofs.lemmas.Int.{ints}
use Rattle.std.specs.Int.{w128}
use Rattle.std.proofs.lemmas.Grind.{pow_more}
use Rattle.std.proofs.lemmas.Nat.{pow-add}
use Rattle.std.proofs.Math.Nat.{pow-le-pow_right, one-le-pow, mul-le-mul, mul_assoc, mul-le-mul_left, mul-le-mul_right}
use Rattle.vrp_text.specs.Numeral.{Numeral as Written, numeral_with, signed, in_range, value_in_range}
use Rattle.vrp_text.specs.Inner.KeptNumeral.{IsSmallNumeral, read_numeral, written_power, read_value}
use Rattle.vrp_text.specs.declared.lexer.numeral.Power.{Power}
use Rattle.vrp_text.specs.declared.lexer.numeral.Numeral.{Numeral}

-- all bytes so far are digits
pub record CountsDigits (text : List ℕ) (i count : ℕ) : Type 0 where
  pub count_is : count ≡ i
  pub all_so_far : prefix_len is_ascii_digit text ≡ i + prefix_len is_ascii_digit (drop i text)

-- each byte of the digits at the front is a digit
pub leading_are_digits : (text : List ℕ) (k : ℕ) → k < length (take_while is_ascii_digit text) → IsTrue (is_ascii_digit (get_or (take_while is_ascii_digit text) k 0))
leading_are_digits text k lt =
    let few : k < prefix_len is_ascii_digit text = omega (arith, length-prefix_len is_ascii_digit text) in
    let same = get_or-take (prefix_len is_ascii_digit text) text k 0 few in
    rw same (prefix_len_passes is_ascii_digit text k 0 few)

-- the value of a digit, from its byte
pub digit_is : (byte : ℕ) → is_ascii_digit byte ≡ true → (digit_value byte ≡ byte - 48) × (byte - 48 < 10)
digit_is byte h = grind (arith, nat_tests)

-- the number that digits write goes on with the digits behind them
pub value_after-append : (radix n : ℕ) (xs ys : List ℕ) → digits_value_after radix n (xs ++ ys) ≡ digits_value_after radix (digits_value_after radix n xs) ys
value_after-append radix n [] ys = refl
value_after-append radix n (x ∷ xs) ys = value_after-append radix (n * radix + digit_value x) xs ys

power_step : (size i : ℕ) → size * 10 ^ (i + 1) ≡ size * 10 ^ i * 10
power_step size i = ap (λ power. size * power) (pow_more 10 i) ∙ sym (mul_assoc size (10 ^ i) 10)

power_grows : (size i n : ℕ) → i ≤ n → size * 10 ^ i ≤ size * 10 ^ n
power_grows size i n le = mul-le-mul_left size (pow-le-pow_right (omega arith) le)

-- the number so far
pub record ReadsOn (start : ℕ) (text : List ℕ) (i number : ℕ) : Type 0 where
  pub value_is : number ≡ digits_value_after 10 start (take i text)
  pub small : number + 1 ≤ (start + 1) * 10 ^ i

-- one digit more is read
pub digit_read : (start : ℕ) (text : List ℕ) (i number digit : ℕ) → i < length text → ReadsOn start text i number → is_ascii_digit (get_or text i 0) ≡ true → digit ≡ get_or text i 0 - 48
    → ReadsOn start text (i + 1) (number * 10 + digit)
digit_read start text i number digit lt so_far here is =
    let d = digit_is (get_or text i 0) here in
    let longer = ap (digits_value_after 10 start) (take_more text i 0 lt) ∙ value_after-append 10 start (take i text) (get_or text i 0 ∷ []) in
    let power = power_step (start + 1) i in
    record {
      value_is = sym (longer ∙ omega (arith, so_far.value_is, d.0, is));
      small = omega (arith, so_far.small, d.1, is, power);
    }

-- one digit more leaves the number small
pub digit_fits : (start number i n : ℕ) → i < n → number + 1 ≤ (start + 1) * 10 ^ i → (start + 1) * 10 ^ n ≤ 10 ^ 18 → number * 10 + 10 ≤ 10 ^ 18
digit_fits start number i n lt small room =
    let power = power_step (start + 1) i in
    let grows = power_grows (start + 1) (i + 1) n (omega arith) in
    omega (arith, power, grows)

-- The digits behind a point fit after the whole ones.
pub both_fit : (number whole fraction : ℕ) → number + 1 ≤ (0 + 1) * 10 ^ whole → whole + fraction ≤ 18 → (number + 1) * 10 ^ fraction ≤ 10 ^ 18
both_fit number whole fraction small few =
    let grows = mul-le-mul_right (10 ^ fraction) small in
    let sum = pow-add 10 whole fraction in
    let most : 10 ^ (whole + fraction) ≤ 10 ^ 18 = pow-le-pow_right (omega arith) few in
    omega (arith, grows, sum, most)

-- a text with no byte behind its leading digits is digits alone
pub all_are_digits : (text : List ℕ) → length text ≤ prefix_len is_ascii_digit text → (k : ℕ) → k < length text → IsTrue (is_ascii_digit (get_or text k 0))
all_are_digits text all k lt = prefix_len_passes is_ascii_digit text k 0 (omega arith)

-- this many digits leave the number small
pub one_part_fits : (n : ℕ) → n ≤ 18 → (0 + 1) * 10 ^ n ≤ 10 ^ 18
one_part_fits n few = power_grows 1 n 18 few

-- the power of ten fits its type
pub power_fits : (n : ℕ) → n ≤ 36 → 10 ^ n < 2 ^ 128
power_fits n few =
    let most : 10 ^ n ≤ 10 ^ 36 = pow-le-pow_right (omega arith) few in
    omega (arith, most)

-- a power of ten is not 0
pub power_positive : (n : ℕ) → 0 < 10 ^ n
power_positive n = one-le-pow n 10 (omega arith)

-- A quotient of digits and a power is no greater than they can be.
pub quotient_fits : (numeral : Numeral) (digits power quotient : ℕ) → IsSmallNumeral numeral → digits ≡ numeral.digits → power ≡ 10 ^ numeral.power.up → quotient ≤ digits * power → quotient ≤ 10 ^ 36
quotient_fits numeral digits power quotient small digits_is power_is less =
    let most_digits : digits ≤ 10 ^ 18 = omega (arith, small.digits, digits_is) in
    let most_up : 10 ^ numeral.power.up ≤ 10 ^ 18 = pow-le-pow_right (omega arith) small.power.up in
    let most_power : power ≤ 10 ^ 18 = omega (arith, most_up, power_is) in
    let most : digits * power ≤ 10 ^ 18 * 10 ^ 18 = mul-le-mul most_digits most_power in
    omega (arith, most)

-- the numeral of digits whose number is read in two parts
pub numeral_with_is : (negative : Bool) (whole fraction : List ℕ) (power : Power) (number : ℕ) → 1 ≤ length whole + length fraction → length whole + length fraction ≤ 18
    → number ≡ digits_value_after 10 (digits_value_after 10 0 whole) fraction
    → Some (record { negative = negative; digits = number; places = length fraction; power = power }) ≡ option_map read_numeral (numeral_with negative whole fraction (written_power power))
numeral_with_is negative whole fraction power number some few is =
    let count = length-append {A = ℕ} whole fraction in
    let both : digits_value_after 10 0 (whole ++ fraction) ≡ number = value_after-append 10 0 whole fraction ∙ sym is in
    let passes : (nat_le 1 (length (whole ++ fraction)) && nat_le (length (whole ++ fraction)) 18) ≡ true = grind (arith, nat_tests, count) in
    rw (passes, both) refl

-- where a quotient is whole, it is so with a sign
pub signed_quotient : (negative whole : Bool) (quotient : ℕ) → cond whole (Some (signed negative quotient)) None ≡ option_map (signed negative) (cond whole (Some quotient) None)
signed_quotient negative true quotient = refl
signed_quotient negative false quotient = refl

-- the value that the program computes is that of the numeral it read
pub whole_value_is : (numeral : Numeral) (digits power quotient : ℕ) → digits ≡ numeral.digits → power ≡ 10 ^ numeral.power.up
    → Some quotient ≡ (if (digits * power) % 10 ^ (numeral.places + numeral.power.down) == 0 then Some ((digits * power) / 10 ^ (numeral.places + numeral.power.down)) else None)
    → Some (signed numeral.negative quotient) ≡ read_value numeral
whole_value_is numeral digits power quotient digits_is power_is whole =
    let unit = 10 ^ (numeral.places + numeral.power.down) in
    let size = numeral.digits * 10 ^ numeral.power.up in
    let here = rw (digits_is, power_is) at whole in
    ap (option_map (signed numeral.negative)) here ∙ sym (signed_quotient numeral.negative (size % unit == 0) (size / unit))

-- a number behind a minus sign, in its type
pub minus_sign : (negative : Bool) (size : ℕ) → negative ≡ true → size ≤ 10 ^ 36 → to_z w128 (of_z w128 (pos 0 -ℤ to_z w128 size)) ≡ signed negative size
minus_sign negative size is small = rw is (omega (arith, ints))

-- a number without a minus sign, in its type
pub no_sign : (negative : Bool) (size : ℕ) → negative ≡ false → size ≤ 10 ^ 36 → to_z w128 size ≡ signed negative size
no_sign negative size is small = rw is (omega (arith, ints))

-- what the program answers to a numeral that it read
pub number_read : (low high : ℤ) (written : Option Written) (numeral : Numeral) (value : ℤ) → Some numeral ≡ option_map read_numeral written → Some value ≡ read_value numeral
    → in_range low high (Some value) ≡ value_in_range low high written
number_read low high None numeral value is value_is = let wrong : ⊥ = cc in absurd wrong
number_read low high (Some written) numeral value is value_is =
    let same : numeral ≡ read_numeral written = cc in
    ap (in_range low high) (value_is ∙ ap read_value same)
