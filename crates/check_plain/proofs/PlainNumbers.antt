-- The numbers of plain files are numerals.
use Rattle.std.proofs.Common.{◌≡◌, ℕ, ◌*◌, ◌%◌, ◌/◌, ◌≤◌, ℤ, pos, neg_ℤ, Bool, true, false, cond, ◌&&◌, ◌==◌, T, nat_le, Option, Some, None, List, [], ◌∷◌, append-nil, length, take, drop, refl, ap, ◌∙◌, inl, inr, arith}
use Rattle.std.specs.Prelude.{Ok, option_map, slice_index, ◌≤ℤ◌}
use Rattle.std.specs.Option.{option_and_then}
use Rattle.std.specs.Char.{is_ascii_digit, is_ascii_alphabetic}
use Rattle.std.specs.List.{All, take_while, prefix_len}
use Rattle.std.specs.Str.{all_ascii_digits}
use Rattle.std.specs.Str.Parse.{digits_value}
use Rattle.std.specs.Int.Signed.{le_z}
use Rattle.std.proofs.lemmas.Bool.{and_parts, and_from, cases_Bool, leb-true, eqb-true}
use Rattle.std.proofs.lemmas.Bool.Decides.{nat_tests}
use Rattle.std.proofs.lemmas.List.{take_all, drop_all}
use Rattle.std.proofs.lemmas.List.Elements.{All-nil, All-cons}
use Rattle.vrp_text.specs.Bytes.{skip_while, is_blank}
use Rattle.vrp_text.specs.Numeral.{Numeral, Power, numeral_of, numeral_with, power_of, has_point, is_minus, without_sign, whole_value, signed, in_range, value_in_range}
use Rattle.vrp_text.specs.Numeral.{number_of as number_in}
use Rattle.check_plain.specs.Plain.{unsigned_number, number_of}

-- one to ten digits
pub record IsDigits (text : List ℕ) : Type 0 where
  pub digits : all_ascii_digits text ≡ true
  pub some : 1 ≤ length text
  pub few : length text ≤ 10

chosen : {X : Type 0} (b : Bool) (x y : X) → cond b (Some x) None ≡ Some y → (b ≡ true) × (x ≡ y)
chosen true x y e = (refl, cc)
chosen false x y e = absurd cc

unsigned_is : (text : List ℕ) (n : ℕ) → unsigned_number text ≡ Some n → IsDigits text × (digits_value 10 text ≡ n)
unsigned_is text n e =
    let found = chosen ((all_ascii_digits text && nat_le 1 (length text)) && nat_le (length text) 10) (digits_value 10 text) n e in
    let parts = and_parts (all_ascii_digits text && nat_le 1 (length text)) (nat_le (length text) 10) found.0 in
    let front = and_parts (all_ascii_digits text) (nat_le 1 (length text)) parts.0 in
    (record { digits = front.0; some = leb-true 1 (length text) front.1; few = leb-true (length text) 10 parts.1 }, found.1)

-- digits alone, or behind a minus sign
pub record IsNumber (text : List ℕ) (minus : Bool) (digits : List ℕ) : Type 0 where
  pub spelled : text ≡ cond minus (45 ∷ digits) digits
  pub are : IsDigits digits

-- a text is a numeral, and this is its value
pub record Writes (text : List ℕ) (z : ℤ) : Type 0 where
  pub minus : Bool
  pub digits : List ℕ
  pub is : IsNumber text minus digits
  pub value : signed minus (digits_value 10 digits) ≡ z

mapped : {X Y : Type 0} (f : X → Y) (o : Option X) (y : Y) → option_map f o ≡ Some y → (x : X) × (o ≡ Some x) × (f x ≡ y)
mapped f None y e = absurd cc
mapped f (Some x) y e = (x, refl, cc)

minus_first : (text : List ℕ) → (slice_index text 0 == 45) ≡ true → text ≡ 45 ∷ drop 1 text
minus_first [] e = absurd cc
minus_first (x ∷ text) e = let same : x ≡ 45 = eqb-true x 45 e in rw same refl

-- a number of a plain file is a numeral of the standard
pub number_is : (text : List ℕ) (z : ℤ) → number_of text ≡ Some z → Writes text z
number_is text z e =
    elim (cases_Bool (slice_index text 0 == 45)) [
      | inl minus ↦
          let there : option_map (λ n. neg_ℤ (pos n)) (unsigned_number (drop 1 text)) ≡ Some z = rw minus at e in
          let n = mapped (λ n. neg_ℤ (pos n)) (unsigned_number (drop 1 text)) z there in
          let is = unsigned_is (drop 1 text) n.0 n.1 in
          record { minus = true; digits = drop 1 text; is = record { spelled = minus_first text minus; are = is.0 }; value = ap (λ n. neg_ℤ (pos n)) is.1 ∙ n.2 }
      | inr none ↦
          let there : option_map pos (unsigned_number text) ≡ Some z = rw none at e in
          let n = mapped pos (unsigned_number text) z there in
          let is = unsigned_is text n.0 n.1 in
          record { minus = false; digits = text; is = record { spelled = refl; are = is.0 }; value = ap pos is.1 ∙ n.2 }
    ]

digits_cons : (x : ℕ) (xs : List ℕ) → all_ascii_digits (x ∷ xs) ≡ true → (is_ascii_digit x ≡ true) × (all_ascii_digits xs ≡ true)
digits_cons x xs e = and_parts (is_ascii_digit x) (all_ascii_digits xs) e

all_digits : (text : List ℕ) → all_ascii_digits text ≡ true → prefix_len is_ascii_digit text ≡ length text
all_digits [] e = refl
all_digits (x ∷ xs) e =
    let parts = digits_cons x xs e in
    rw parts.0 (omega (arith, all_digits xs parts.1))

digit_bounds : (x : ℕ) → is_ascii_digit x ≡ true → (48 ≤ x) × (x ≤ 57)
digit_bounds x e = grind (arith, nat_tests)

-- a numeral behind its sign
numeral_from : Bool → List ℕ → Option Numeral
numeral_from negative bare =
    let whole = take_while is_ascii_digit bare in
    let behind = skip_while is_ascii_digit bare in
    cond (has_point behind)
    (option_and_then (numeral_with negative whole (take_while is_ascii_digit (drop 1 behind))) (power_of (skip_while is_ascii_digit (drop 1 behind))))
    (option_and_then (numeral_with negative whole []) (power_of behind))

numeral_split : (text : List ℕ) → numeral_of text ≡ numeral_from (is_minus text) (without_sign text)
unfolding numeral_from
numeral_split text = refl

no_power : Power
no_power = record { up = 0; down = 0 }

plain_numeral : Bool → List ℕ → Numeral
plain_numeral negative digits = record { negative = negative; digits = digits; places = 0; power = no_power }

numeral_digits : (negative : Bool) (digits : List ℕ) → IsDigits digits → numeral_from negative digits ≡ Some (plain_numeral negative digits)
unfolding numeral_from plain_numeral no_power
numeral_digits negative digits are =
    let e = all_digits digits are.digits in
    let whole : take (prefix_len is_ascii_digit digits) digits ≡ digits = take_all _ digits (omega arith) in
    let behind : drop (prefix_len is_ascii_digit digits) digits ≡ [] = drop_all _ digits (omega arith) in
    let some = are.some in
    let few = are.few in
    let fits : (nat_le 1 (length digits) && nat_le (length digits) 18) ≡ true = grind (arith, nat_tests) in
    rw (whole, behind, append-nil digits, fits) refl

whole_plain : (negative : Bool) (digits : List ℕ) → whole_value (plain_numeral negative digits) ≡ Some (signed negative (digits_value 10 digits))
unfolding plain_numeral no_power
whole_plain negative digits =
    let n = digits_value 10 digits in
    let none : (n * 1 % 1 == 0) ≡ true = grind (arith, nat_tests) in
    let same : n * 1 / 1 ≡ n = omega arith in
    rw (none, same) refl

bare_digits : (x : ℕ) (xs : List ℕ) → is_ascii_digit x ≡ true → (is_minus (x ∷ xs) ≡ false) × (without_sign (x ∷ xs) ≡ x ∷ xs)
bare_digits x xs e =
    let bounds = digit_bounds x e in
    let no : (x == 45) ≡ false = grind (arith, nat_tests) in
    let none : (x == 43) ≡ false = grind (arith, nat_tests) in
    (no, rw (none, no) refl)

sign_split : (text : List ℕ) (minus : Bool) (digits : List ℕ) → IsNumber text minus digits → (is_minus text ≡ minus) × (without_sign text ≡ digits)
sign_split text true digits is = rw is.spelled (refl, refl)
sign_split text false [] is = let some = is.are.some in absurd (omega arith)
sign_split text false (x ∷ xs) is = rw is.spelled (bare_digits x xs (digits_cons x xs is.are.digits).0)

is_so : (t : Bool) → T t → t ≡ true
is_so true h = refl
is_so false h = absurd h

-- a plain number between its bounds is that number
pub number_in_is : (low high : ℤ) (text : List ℕ) (z : ℤ) → Writes text z → low ≤ℤ z → z ≤ℤ high → number_in low high text ≡ Ok z
number_in_is low high text z writes above below =
    let split = sign_split text writes.minus writes.digits writes.is in
    let numeral : numeral_of text ≡ Some (plain_numeral writes.minus writes.digits) = numeral_split text ∙ ap (λ b. numeral_from b (without_sign text)) split.0 ∙ ap (numeral_from writes.minus) split.1 ∙ numeral_digits writes.minus writes.digits writes.is.are in
    let value : whole_value (plain_numeral writes.minus writes.digits) ≡ Some z = whole_plain writes.minus writes.digits ∙ ap Some writes.value in
    let fits : (le_z low z && le_z z high) ≡ true = and_from (le_z low z) (le_z z high) (is_so (le_z low z) above.le) (is_so (le_z z high) below.le) in
    ap (value_in_range low high) numeral ∙ ap (in_range low high) value ∙ rw fits refl

digit_no_blank : (x : ℕ) → is_ascii_digit x ≡ true → (is_blank x ≡ false) × ((x == 32) ≡ false) × (is_ascii_alphabetic x ≡ false)
digit_no_blank x e = let bounds = digit_bounds x e in (grind (arith, nat_tests), grind (arith, nat_tests), grind (arith, nat_tests))

digits_no_blank : (text : List ℕ) → all_ascii_digits text ≡ true → All (λ byte. is_blank byte ≡ false) text
digits_no_blank [] e = All-nil (λ byte. is_blank byte ≡ false)
digits_no_blank (x ∷ xs) e =
    let parts = digits_cons x xs e in
    All-cons (λ byte. is_blank byte ≡ false) x xs (digit_no_blank x parts.0).0 (digits_no_blank xs parts.1)

number_no_blank : (text : List ℕ) (minus : Bool) (digits : List ℕ) → IsNumber text minus digits → All (λ byte. is_blank byte ≡ false) text
number_no_blank text true digits is = rw is.spelled (All-cons (λ byte. is_blank byte ≡ false) 45 digits refl (digits_no_blank digits is.are.digits))
number_no_blank text false digits is = rw is.spelled (digits_no_blank digits is.are.digits)

-- no byte of a number is a blank
pub no_blank : (text : List ℕ) (z : ℤ) → Writes text z → All (λ byte. is_blank byte ≡ false) text
no_blank text z writes = number_no_blank text writes.minus writes.digits writes.is

first_is : (text : List ℕ) (minus : Bool) (digits : List ℕ) → IsNumber text minus digits
    → (1 ≤ length text) × (is_blank (slice_index text 0) ≡ false) × (is_ascii_alphabetic (slice_index text 0) ≡ false)
first_is text true digits is = rw is.spelled (omega arith, refl, refl)
first_is text false [] is = let some = is.are.some in absurd (omega arith)
first_is text false (x ∷ xs) is =
    let here = digit_no_blank x (digits_cons x xs is.are.digits).0 in
    rw is.spelled (omega arith, here.0, here.2)

-- a number begins with no letter
pub first_no_letter : (text : List ℕ) (z : ℤ) → Writes text z → (1 ≤ length text) × (is_blank (slice_index text 0) ≡ false) × (is_ascii_alphabetic (slice_index text 0) ≡ false)
first_no_letter text z writes = first_is text writes.minus writes.digits writes.is
