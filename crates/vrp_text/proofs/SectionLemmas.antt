-- The data lines of a section while they are read.
use Rattle.std.proofs.Common.{◌≡◌, ℕ, zero, suc, ◌+◌, ℤ, Bool, true, false, cond, ◌&&◌, nat_lt, Option, Some, None, subst, List, [], ◌∷◌, ◌++◌, length, refl, sym, ap, ◌∙◌, append_assoc, append-nil, length-append, arith}
use Rattle.std.specs.Prelude.{Result, Ok, Err}
use Rattle.std.specs.Int.Signed.{◌≤ℤ◌, le_z, le_z_yes}
use Rattle.std.proofs.lemmas.Bool.{and_parts}
use Rattle.std.proofs.lemmas.Float.{T_from_true}
use Rattle.vrp_text.specs.Numeral.{Numeral, in_range, value_in_range, numeral_of, whole_value}
use Rattle.vrp_text.specs.declared.lexer.fault.FileLineFault.TheVariants.{BadNumber}
use Rattle.std.specs.Option.{option_or}
use Rattle.vrp_text.specs.Section.{AreWithin, lowest, highest, tokens_fault, numbers_from, data_fault, data_numbers, token_number, fault_of, number_or_zero, on_line, outside_fault}
use Rattle.std.proofs.lemmas.Bool.Decides.{nat_tests}
use Rattle.vrp_text.specs.Line.{Line, Data}
use Rattle.vrp_text.specs.Part.{leading_data, parts_from}
use Rattle.vrp_text.specs.Inner.LinesLeft.{LinesLeft, data_left, parts_left}
use Rattle.vrp_text.specs.declared.error.TextError.{TextError}
use Rattle.vrp_text.specs.declared.error.TextError.TheVariants.{DataOutside}
use Rattle.vrp_text.specs.declared.lexer.fault.FileLineFault.{FileLineFault}
use Rattle.vrp_text.specs.declared.section.Section.{Section}

-- the tokens of a line that are left, and the numbers that were read
pub record ReadsTokens (section : Section) (all : List (List ℕ)) (old numbers : List ℤ) (left : List (List ℕ)) : Type 0 where
  pub fault : tokens_fault section (length old) all ≡ tokens_fault section (length numbers) left
  pub read : old ++ numbers_from section (length old) all ≡ numbers ++ numbers_from section (length numbers) left

-- one token more is read
pub one_more : (section : Section) (all : List (List ℕ)) (old numbers : List ℤ) (left : List (List ℕ)) (token : List ℕ) (rest : List (List ℕ)) (value : ℤ)
    → ReadsTokens section all old numbers left → left ≡ token ∷ rest → Ok value ≡ token_number section (length numbers) token → ReadsTokens section all old (numbers ++ value ∷ []) rest
one_more section all old numbers left token rest value so_far is good =
    let count : length (numbers ++ value ∷ []) ≡ length numbers + 1 = length-append numbers (value ∷ []) in
    record {
      fault = so_far.fault ∙ (rw is (rw (← good) (rw count refl)));
      read = so_far.read ∙ (rw is (rw (← good) (rw count (sym (append_assoc numbers (value ∷ []) (numbers_from section (length numbers + 1) rest))))));
    }

-- a fault of a token is the line's, where the tokens before it have none
fault_first : (number : ℕ) (read : Result ℤ FileLineFault) (later : Option FileLineFault) (error : TextError) → on_line number (fault_of read) ≡ Some error → on_line number (option_or (fault_of read) later) ≡ Some error
fault_first number (Ok value) later error e = absurd cc
fault_first number (Err fault) later error e = e

-- the fault of the token that is read is the first of its line
pub token_refused : (section : Section) (number : ℕ) (all : List (List ℕ)) (old numbers : List ℤ) (left : List (List ℕ)) (token : List ℕ) (rest : List (List ℕ)) (error : TextError)
    → ReadsTokens section all old numbers left → left ≡ token ∷ rest → on_line number (fault_of (token_number section (length numbers) token)) ≡ Some error
    → on_line number (tokens_fault section (length old) all) ≡ Some error
token_refused section number all old numbers left token rest error so_far is bad =
    let first : tokens_fault section (length old) all ≡ tokens_fault section (length numbers) (token ∷ rest) = so_far.fault ∙ ap (tokens_fault section (length numbers)) is in
    ap (on_line number) first ∙ fault_first number (token_number section (length numbers) token) (tokens_fault section (length numbers + 1) rest) error bad

-- the lines of a section that are left, and the numbers that were read
pub record ReadsLines (section : Section) (all : LinesLeft) (numbers : List ℤ) (left : LinesLeft) : Type 0 where
  pub fault : data_fault section all.number 0 (data_left all) ≡ data_fault section left.number (length numbers) (data_left left)
  pub read : data_numbers section 0 (data_left all) ≡ numbers ++ data_numbers section (length numbers) (data_left left)
  pub passed : parts_left left ≡ parts_left all

length-numbers : (section : Section) (place : ℕ) (tokens : List (List ℕ)) → length (numbers_from section place tokens) ≡ length tokens
length-numbers section place [] = refl
length-numbers section place (token ∷ tokens) = omega (arith, length-numbers section (place + 1) tokens)

data_after : (section : Section) (number place : ℕ) (lines : List Line) (tokens : List (List ℕ)) (rest : List Line) → lines ≡ Data tokens ∷ rest
    → (data_fault section number place (leading_data lines) ≡ option_or (on_line number (tokens_fault section place tokens)) (data_fault section (number + 1) (place + length tokens) (leading_data rest)))
    × (data_numbers section place (leading_data lines) ≡ numbers_from section place tokens ++ data_numbers section (place + length tokens) (leading_data rest))
    × (parts_from number lines ≡ parts_from (number + 1) rest)
data_after section number place lines tokens rest is = (rw is refl, rw is refl, rw is refl)

-- one line more is read
pub one_line_more : (section : Section) (all left rest : LinesLeft) (tokens : List (List ℕ)) (numbers more : List ℤ)
    → ReadsLines section all numbers left → left.lines ≡ Data tokens ∷ rest.lines → rest.number ≡ left.number + 1
    → tokens_fault section (length numbers) tokens ≡ None → more ≡ numbers ++ numbers_from section (length numbers) tokens → ReadsLines section all more rest
one_line_more section all left rest tokens numbers more so_far is next good read =
    let after = data_after section left.number (length numbers) left.lines tokens rest.lines is in
    let count : length more ≡ length numbers + length tokens = rw read (length-append numbers (numbers_from section (length numbers) tokens) ∙ ap (λ n. length numbers + n) (length-numbers section (length numbers) tokens)) in
    record {
      fault = so_far.fault ∙ after.0 ∙ rw good (rw next (rw count refl));
      read = so_far.read ∙ ap (λ xs. numbers ++ xs) after.1 ∙ rw count (rw read (sym (append_assoc numbers (numbers_from section (length numbers) tokens) (data_numbers section (length numbers + length tokens) (leading_data rest.lines)))));
      passed = rw next (sym after.2) ∙ so_far.passed;
    }

-- the fault of the line that is read is the first of all
pub line_refused : (section : Section) (all left : LinesLeft) (tokens : List (List ℕ)) (rest : List Line) (numbers : List ℤ) (error : TextError)
    → ReadsLines section all numbers left → left.lines ≡ Data tokens ∷ rest
    → on_line left.number (tokens_fault section (length numbers) tokens) ≡ Some error → data_fault section all.number 0 (data_left all) ≡ Some error
line_refused section all left tokens rest numbers error so_far is bad =
    so_far.fault ∙ (data_after section left.number (length numbers) left.lines tokens rest is).0 ∙ rw bad refl

-- after the last line all numbers are read
pub lines_end : (section : Section) (all left : LinesLeft) (numbers : List ℤ) → ReadsLines section all numbers left → data_left left ≡ []
    → (data_fault section all.number 0 (data_left all) ≡ None) × (numbers ≡ data_numbers section 0 (data_left all))
lines_end section all left numbers so_far none = (so_far.fault ∙ rw none refl, sym (so_far.read ∙ rw none (append-nil numbers)))

-- blank lines where no section is
pub record PassesLines (all left : LinesLeft) : Type 0 where
  pub fault : outside_fault all.number (data_left all) ≡ outside_fault left.number (data_left left)
  pub passed : parts_left left ≡ parts_left all

outside_after : (number : ℕ) (lines : List Line) (tokens : List (List ℕ)) (rest : List Line) → lines ≡ Data tokens ∷ rest
    → outside_fault number (leading_data lines) ≡ outside_fault number (tokens ∷ leading_data rest)
outside_after number lines tokens rest is = rw is refl

-- one blank line more is passed over
pub one_blank_more : (all left rest : LinesLeft) (tokens : List (List ℕ)) → PassesLines all left → left.lines ≡ Data tokens ∷ rest.lines → rest.number ≡ left.number + 1
    → tokens ≡ [] → PassesLines all rest
one_blank_more all left rest tokens so_far is next blank =
    record {
      fault = so_far.fault ∙ outside_after left.number left.lines tokens rest.lines is ∙ rw blank (rw next refl);
      passed = rw next (sym (ap (parts_from left.number) is)) ∙ so_far.passed;
    }

some_tokens : (tokens : List (List ℕ)) (number : ℕ) (lines : List (List (List ℕ))) → (tokens ≡ [] → ⊥) → outside_fault number (tokens ∷ lines) ≡ Some (DataOutside number)
some_tokens [] number lines some = absurd (some refl)
some_tokens (token ∷ tokens) number lines some =
    let yes : nat_lt 0 (length (token ∷ tokens)) ≡ true = grind (arith, nat_tests) in
    rw yes refl

-- the first line that is not blank is the fault
pub data_outside : (all left : LinesLeft) (tokens : List (List ℕ)) (rest : List Line) → PassesLines all left → left.lines ≡ Data tokens ∷ rest → (tokens ≡ [] → ⊥)
    → outside_fault all.number (data_left all) ≡ Some (DataOutside left.number)
data_outside all left tokens rest so_far is some = so_far.fault ∙ outside_after left.number left.lines tokens rest is ∙ some_tokens tokens left.number (leading_data rest) some

passed : (test : Bool) (value number : ℤ) → cond test (Ok value) (Err BadNumber) ≡ Ok number → (test ≡ true) × (value ≡ number)
passed true value number e = (refl, cc)
passed false value number e = absurd cc

in_range_is : (low high : ℤ) (value : Option ℤ) (number : ℤ) → in_range low high value ≡ Ok number → (low ≤ℤ number) × (number ≤ℤ high)
in_range_is low high None number e = absurd cc
in_range_is low high (Some value) number e =
    let both = passed (le_z low value && le_z value high) value number e in
    let parts = and_parts (le_z low value) (le_z value high) both.0 in
    subst (λ z. (low ≤ℤ z) × (z ≤ℤ high)) both.1 (le_z_yes (T_from_true (le_z low value) parts.0), le_z_yes (T_from_true (le_z value high) parts.1))

number_within : (low high : ℤ) (numeral : Option Numeral) (number : ℤ) → value_in_range low high numeral ≡ Ok number → (low ≤ℤ number) × (number ≤ℤ high)
number_within low high None number e = absurd cc
number_within low high (Some numeral) number e = in_range_is low high (whole_value numeral) number e

token_within : (section : Section) (place : ℕ) (token : List ℕ) (number : ℤ) → token_number section place token ≡ Ok number → (lowest section place ≤ℤ number) × (number ≤ℤ highest section place)
token_within section place token number e = number_within (lowest section place) (highest section place) (numeral_of token) number e

within_none : (section : Section) (place : ℕ) → AreWithin section place []
within_none section place = λ k lt. absurd (omega arith)

within_more : (section : Section) (place : ℕ) (number : ℤ) (numbers : List ℤ) → (lowest section place ≤ℤ number) × (number ≤ℤ highest section place) → AreWithin section (place + 1) numbers → AreWithin section place (number ∷ numbers)
within_more section place number numbers here later zero lt = let e : place + 0 ≡ place = omega arith in rw e here
within_more section place number numbers here later (suc k) lt = let e : place + suc k ≡ (place + 1) + k = omega arith in rw e (later k (omega arith))

within_append : (section : Section) (place : ℕ) (xs ys : List ℤ) → AreWithin section place xs → AreWithin section (place + length xs) ys → AreWithin section place (xs ++ ys)
within_append section place [] ys left right = let e : place ≡ place + 0 = omega arith in rw e right
within_append section place (x ∷ xs) ys left right =
    let here : (lowest section place ≤ℤ x) × (x ≤ℤ highest section place) = let e : place ≡ place + 0 = omega arith in rw e (left 0 (omega arith)) in
    within_more section place x (xs ++ ys) here
    (within_append section (place + 1) xs ys
    (λ k lt. let e : (place + 1) + k ≡ place + suc k = omega arith in rw e (left (suc k) (omega arith)))
    (let e : (place + 1) + length xs ≡ place + suc (length xs) = omega arith in rw e right))

-- where the first that is there of two is none, both are none
pub both_none : {X : Type 0} (a b : Option X) → option_or a b ≡ None → (a ≡ None) × (b ≡ None)
both_none None b e = (refl, e)
both_none (Some x) b e = absurd cc

-- no fault on a line is no fault
pub on_line_none : (line : ℕ) (fault : Option FileLineFault) → on_line line fault ≡ None → fault ≡ None
on_line_none line None e = refl
on_line_none line (Some fault) e = absurd cc

good_token : (number : Result ℤ FileLineFault) → fault_of number ≡ None → number ≡ Ok (number_or_zero number)
good_token (Ok number) e = refl
good_token (Err fault) e = absurd cc

tokens_within : (section : Section) (place : ℕ) (tokens : List (List ℕ)) → tokens_fault section place tokens ≡ None → AreWithin section place (numbers_from section place tokens)
tokens_within section place [] e = within_none section place
tokens_within section place (token ∷ tokens) e =
    let both = both_none (fault_of (token_number section place token)) (tokens_fault section (place + 1) tokens) e in
    within_more section place (number_or_zero (token_number section place token)) (numbers_from section (place + 1) tokens)
    (token_within section place token (number_or_zero (token_number section place token)) (good_token (token_number section place token) both.0))
    (tokens_within section (place + 1) tokens both.1)

-- numbers that are no faults may stand where they do
pub data_within : (section : Section) (line place : ℕ) (lines : List (List (List ℕ))) → data_fault section line place lines ≡ None → AreWithin section place (data_numbers section place lines)
data_within section line place [] e = within_none section place
data_within section line place (tokens ∷ lines) e =
    let both = both_none (on_line line (tokens_fault section place tokens)) (data_fault section (line + 1) (place + length tokens) lines) e in
    within_append section place (numbers_from section place tokens) (data_numbers section (place + length tokens) lines)
    (tokens_within section place tokens (on_line_none line (tokens_fault section place tokens) both.0))
    (rw (length-numbers section place tokens) (data_within section (line + 1) (place + length tokens) lines both.1))
