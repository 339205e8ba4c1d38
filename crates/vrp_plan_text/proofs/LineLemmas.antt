-- What a line says, from its parts.
use Rattle.std.proofs.Common.{◌≡◌, ◌∙◌, ℕ, ℤ, pos, ◌+◌, ◌-◌, ◌<◌, ◌≤◌, ◌&&◌, Bool, true, false, nat_lt, not, Option, Some, None, Ok, Err, IsErr, List, [], ◌∷◌, length, take, drop, refl, sym, ap, subst, inl, inr, ◌⊎◌, arith}
use Rattle.std.specs.List.{after_first, list_any, position, position_or_len, slice_split}
use Rattle.std.specs.Int.Signed.{le_z}
use Rattle.std.proofs.lemmas.Bool.{cases_Bool}
use Rattle.std.proofs.lemmas.Bool.Decides.{nat_tests}
use Rattle.std.proofs.lemmas.Grind.{common_steps}
use Rattle.std.proofs.lemmas.List.{take_rest}
use Rattle.std.proofs.lemmas.List.Splits.{slice_split_first}
use Rattle.std.proofs.lemmas.List.Sums.{prefix_len-le-length}
use Rattle.vrp_text.specs.Line.{tokens_of}
use Rattle.vrp_text.specs.Numeral.{Numeral, in_range, number_of, numeral_of, value_in_range, whole_value}
use Rattle.vrp_text.specs.declared.lexer.fault.FileLineFault.{FileLineFault}
use Rattle.vrp_text.specs.declared.lexer.fault.FileLineFault.TheVariants.{BadNumber, NotWhole}
use Rattle.vrp_text.proofs.TokenLemmas.{split_whole}
use Rattle.vrp_plan_text.specs.Line.{Number, Route, Unknown, cost_line, is_colon, number_token, parted_line, route_line}
use Rattle.vrp_plan_text.specs.Inner.Parted.{ArePartedAt}
use Rattle.vrp_plan_text.specs.Inner.Read.{HasNoNumber, IsWrong, stops_written}
use Rattle.vrp_plan_text.specs.declared.reading.line.LineError.{LineError}
use Rattle.vrp_plan_text.specs.declared.reading.line.LineError.TheVariants as bad
use Rattle.vrp_plan_text.specs.declared.reading.line.TheConstants.{MAX_NUMBER}

-- ---- parts of a text

-- where one passes, the first that does parts the text
pub parted_at : (p : ℕ → Bool) (text : List ℕ) (place : ℕ) → position p text ≡ Some place → ArePartedAt p text (take place text) (take (length text - (place + 1)) (drop (place + 1) text))
parted_at p text place found =
    elim (cases_Bool (nat_lt (position_or_len p text) (length text))) [
      | inl some ↦
          let here : position_or_len p text ≡ place = cc in
          let within : position_or_len p text < length text = grind (arith, nat_tests) in
          record {
            somewhere = within;
            stands_before = ap (λ k. take k text) (sym here);
            stands_behind = take_rest text (place + 1) ∙ ap (λ k. drop (k + 1) text) (sym here);
          }
      | inr nowhere ↦ absurd (cc)
    ]

-- where none does, the whole text stands before
pub none_stands : (p : ℕ → Bool) (text : List ℕ) → position p text ≡ None → position_or_len p text ≡ length text
none_stands p text none =
    elim (cases_Bool (nat_lt (position_or_len p text) (length text))) [
      | inl some ↦ absurd (cc)
      | inr nowhere ↦
          let low = prefix_len-le-length (λ x. not (p x)) text in
          let high : length text ≤ position_or_len p text = grind (arith, nat_tests) in
          omega (arith, low, high)
    ]

pub any_passes : (p : ℕ → Bool) (text : List ℕ) → position_or_len p text < length text → list_any p text ≡ true
any_passes p [] within = absurd (omega arith)
any_passes p (x ∷ xs) within =
    elim (cases_Bool (p x)) [
      | inl here ↦ grind (arith, common_steps)
      | inr gone ↦
          let rest : list_any p xs ≡ true = any_passes p xs (grind (arith, common_steps)) in
          grind (arith, common_steps)
    ]

pub none_passes : (p : ℕ → Bool) (text : List ℕ) → position_or_len p text ≡ length text → list_any p text ≡ false
none_passes p [] whole = refl
none_passes p (x ∷ xs) whole =
    elim (cases_Bool (p x)) [
      | inl here ↦ absurd (grind (arith, common_steps))
      | inr gone ↦
          let rest : list_any p xs ≡ false = none_passes p xs (grind (arith, common_steps)) in
          grind (arith, common_steps)
    ]

-- the lines of a text: the first, and those behind its line feed
pub split_parted : (p : ℕ → Bool) (text before behind : List ℕ) → ArePartedAt p text before behind → slice_split p text ≡ before ∷ slice_split p behind
split_parted p text before behind parted =
    slice_split_first p text 0 parted.somewhere ∙ ap (λ (l : List ℕ). l ∷ slice_split p (after_first p text)) (sym parted.stands_before) ∙ ap (λ (l : List ℕ). before ∷ slice_split p l) (sym parted.stands_behind)

pub split_last : (p : ℕ → Bool) (text : List ℕ) → position p text ≡ None → slice_split p text ≡ text ∷ []
split_last p text none = split_whole p text (none_stands p text none)

-- ---- numbers

fault_in_range : (low high : ℤ) (value : Option ℤ) (fault : FileLineFault) → in_range low high value ≡ Err fault → (fault ≡ BadNumber) ⊎ (fault ≡ NotWhole)
fault_in_range low high None fault is = inr (cc)
fault_in_range low high (Some value) fault is =
    elim (cases_Bool (le_z low value && le_z value high)) [
      | inl fits ↦ absurd (cc)
      | inr beyond ↦ inl (cc)
    ]

fault_of_value : (low high : ℤ) (numeral : Option Numeral) (fault : FileLineFault) → value_in_range low high numeral ≡ Err fault → (fault ≡ BadNumber) ⊎ (fault ≡ NotWhole)
fault_of_value low high None fault is = inl (cc)
fault_of_value low high (Some numeral) fault is = fault_in_range low high (whole_value numeral) fault is

-- a token that writes no number of a range is a bad number, or not whole
pub number_faults : (low high : ℤ) (token : List ℕ) (fault : FileLineFault) → number_of low high token ≡ Err fault → (fault ≡ BadNumber) ⊎ (fault ≡ NotWhole)
number_faults low high token fault is = fault_of_value low high (numeral_of token) fault is

-- ---- lines

-- a cost that is no number
pub bad_cost : (tokens rest : List (List ℕ)) (cost : List ℕ) (fault : FileLineFault) → tokens ≡ cost ∷ rest → rest ≡ [] → number_of (pos 0) MAX_NUMBER cost ≡ Err fault → (fault ≡ NotWhole → ⊥) → HasNoNumber (cost_line tokens)
bad_cost tokens rest cost fault is last number other =
    let bad : number_of (pos 0) MAX_NUMBER cost ≡ Err BadNumber = elim (number_faults (pos 0) MAX_NUMBER cost fault number) [ inl wrong ↦ number ∙ ap Err wrong | inr not_whole ↦ absurd (other not_whole) ] in
    let same : tokens ≡ cost ∷ [] = is ∙ ap (λ (l : List (List ℕ)). cost ∷ l) last in
    subst (λ (l : List (List ℕ)). HasNoNumber (cost_line l)) (sym same) bad

-- no colon
pub no_colon : (text : List ℕ) → position is_colon text ≡ None → parted_line text ≡ Unknown
no_colon text none = let nowhere : list_any is_colon text ≡ false = none_passes is_colon text (none_stands is_colon text none) in rw nowhere refl

-- the parts of a route's line
pub route_parted : (text before behind : List ℕ) → ArePartedAt is_colon text before behind → parted_line text ≡ route_line (number_token (tokens_of before)) (tokens_of behind)
route_parted text before behind parted =
    let somewhere : list_any is_colon text ≡ true = any_passes is_colon text parted.somewhere in
    rw (somewhere, parted.stands_before, parted.stands_behind) refl

-- no number before the colon
pub no_number : (text before behind : List ℕ) (heading : List (List ℕ)) → ArePartedAt is_colon text before behind → heading ≡ tokens_of before → None ≡ number_token heading → parted_line text ≡ Unknown
no_number text before behind heading parted tokens none = route_parted text before behind parted ∙ ap (λ o. route_line o (tokens_of behind)) (sym (none ∙ ap number_token tokens))

-- what is said of the parts
in_parts : (text before behind digits : List ℕ) (heading stops : List (List ℕ)) → ArePartedAt is_colon text before behind → heading ≡ tokens_of before → stops ≡ tokens_of behind → Some digits ≡ number_token heading
    → parted_line text ≡ Route (number_of (pos 0) MAX_NUMBER digits) (stops_written stops)
in_parts text before behind digits heading stops parted tokens listed token =
    route_parted text before behind parted ∙ ap (λ o. route_line o (tokens_of behind)) (sym (token ∙ ap number_token tokens)) ∙ ap (λ (l : List (List ℕ)). route_line (Some digits) l) (sym listed)

-- a route with its number
pub route_said : (text before behind digits : List ℕ) (heading stops : List (List ℕ)) (number : ℤ) (n : ℕ) → ArePartedAt is_colon text before behind → heading ≡ tokens_of before → stops ≡ tokens_of behind → Some digits ≡ number_token heading
    → number_of (pos 0) MAX_NUMBER digits ≡ Ok number → number ≡ pos n → parted_line text ≡ Route (Ok (pos n)) (stops_written stops)
route_said text before behind digits heading stops number n parted tokens listed token is same =
    in_parts text before behind digits heading stops parted tokens listed token ∙ ap (λ (r : Number). Route r (stops_written stops)) (is ∙ ap Ok same)

-- a route whose number is none
pub bad_route : (text before behind digits : List ℕ) (heading : List (List ℕ)) → ArePartedAt is_colon text before behind → heading ≡ tokens_of before → Some digits ≡ number_token heading → IsErr (number_of (pos 0) MAX_NUMBER digits) → HasNoNumber (parted_line text)
bad_route text before behind digits heading parted tokens token wrong =
    subst HasNoNumber (sym (in_parts text before behind digits heading (tokens_of behind) parted tokens refl token)) wrong

pub wrong_route : (text before behind digits : List ℕ) (heading : List (List ℕ)) (error : LineError) → ArePartedAt is_colon text before behind → heading ≡ tokens_of before → Some digits ≡ number_token heading
    → (error ≡ bad.BadNumber) × IsErr (number_of (pos 0) MAX_NUMBER digits) → IsWrong (parted_line text) error
wrong_route text before behind digits heading error parted tokens token (is, wrong) = subst (IsWrong (parted_line text)) (sym is) (bad_route text before behind digits heading parted tokens token wrong)
