-- The values that the arguments of a command line give to its options.
use Rattle.std.specs.Borrow.{Bor}
use Rattle.std.specs.List.{HoldsAt}
use Rattle.std.specs.Prelude.{◌≡◌, ◌⊎◌, ◌+◌, ◌<◌, ◌++◌, ◌∷◌, ℕ, List, Option, MatchOption, None, codes, length}
use Rattle.std.specs.Str.Parse.{IsNumeral, digits_value, without_leading_plus}
use Rattle.vrp_command_request.specs.declared.options.Format.{Format}
use Rattle.vrp_command_request.specs.declared.options.Format.TheVariants as format

-- the argument is this name, '=' and the value
abbrev pub IsBehind : List ℕ → List ℕ → List ℕ → Type 0
IsBehind argument name value = argument ≡ name ++ 61 ∷ value

-- there is a next argument, and it is the value
abbrev pub GivesNext : List (Bor (List ℕ)) → ℕ → List ℕ → Type 0
GivesNext arguments at value = (at + 1 < length arguments) × HoldsAt (λ given. given.now ≡ value) arguments (at + 1)

-- the argument at this place is the name and the next one the value, or it is the name, '=' and the value
abbrev pub GivesAt : List (Bor (List ℕ)) → List ℕ → ℕ → List ℕ → Type 0
GivesAt arguments name at value = (HoldsAt (λ given. given.now ≡ name) arguments at × GivesNext arguments at value)
    ⊎ HoldsAt (λ given. IsBehind given.now name value) arguments at

-- the arguments give this value to the option of this name
abbrev pub GivesValue : List (Bor (List ℕ)) → List ℕ → List ℕ → Type 0
GivesValue arguments name value = (at : ℕ) × (at < length arguments) × GivesAt arguments name at value

-- the arguments give this value to an option, by its name or its alias
abbrev pub GivesEither : List (Bor (List ℕ)) → List ℕ → List ℕ → List ℕ → Type 0
GivesEither arguments name alias value = GivesValue arguments name value ⊎ GivesValue arguments alias value

-- the value is given; or there is no value, and none is given
abbrev pub IsGiven : (List ℕ → Type 0) → Option (Bor (List ℕ)) → Type 0
IsGiven gives value = MatchOption value ((text : List ℕ) → gives text → ⊥) (λ text. gives text.now)

-- the text is this number in decimal digits; a plus may stand first
abbrev pub IsNumber : List ℕ → ℕ → Type 0
IsNumber text number = IsNumeral 10 (without_leading_plus text) × (digits_value 10 (without_leading_plus text) ≡ number)

-- the value is this number; or there is neither
abbrev pub IsReadFrom : Option (Bor (List ℕ)) → Option ℕ → Type 0
IsReadFrom value number = MatchOption value (number ≡ None) (λ text. MatchOption number ⊥ (λ n. IsNumber text.now n))

-- the number is given; or there is no number, and no value is given
abbrev pub IsGivenNumber : (List ℕ → Type 0) → Option ℕ → Type 0
IsGivenNumber gives number = MatchOption number ((text : List ℕ) → gives text → ⊥) (λ n. (text : List ℕ) × gives text × IsNumber text n)

-- the number is given; or no value is given, and it is the default
abbrev pub IsNumberOr : (List ℕ → Type 0) → ℕ → ℕ → Type 0
IsNumberOr gives default number = ((text : List ℕ) × gives text × IsNumber text number) ⊎ (((text : List ℕ) → gives text → ⊥) × (number ≡ default))

-- the name of a form
abbrev pub form_name : Format → List ℕ
form_name format.Report = codes "report"
form_name format.Solution = codes "sol"
form_name format.Json = codes "json"
form_name format.Picture = codes "svg"

-- the value names the form; or there is no value, and it is the report
abbrev pub IsNamedBy : Option (Bor (List ℕ)) → Format → Type 0
IsNamedBy value form = MatchOption value (form ≡ format.Report) (λ text. text.now ≡ form_name form)

-- the name of the form is given; or no value is given, and it is the report
abbrev pub IsGivenForm : (List ℕ → Type 0) → Format → Type 0
IsGivenForm gives form = gives (form_name form) ⊎ (((text : List ℕ) → gives text → ⊥) × (form ≡ format.Report))
