-- The data of a part: the allowed tokens, and the numbers that they write (TSPLIB 95, section 1.2).
use Rattle.std.specs.Int.Signed.{◌≤ℤ◌}
use Rattle.std.specs.Prelude.{◌≡◌, ◌<◌, get_or, ℕ, ◌+◌, ◌%◌, ℤ, pos, neg_ℤ, Bool, ◌==◌, nat_lt, if◌then◌else◌, Option, Some, None, Result, Ok, Err, List, [], ◌∷◌, ◌++◌, length}
use Rattle.std.specs.Option.{option_or}
use Rattle.vrp_text.specs.Numeral.{number_of}
use Rattle.vrp_text.specs.declared.lexer.fault.FileLineFault.{FileLineFault}
use Rattle.vrp_text.specs.declared.lexer.key.Key.TheVariants as key
use Rattle.vrp_text.specs.declared.error.TextError.{TextError}
use Rattle.vrp_text.specs.declared.error.TextError.TheVariants as error
use Rattle.vrp_text.specs.declared.lexer.fault.FileLineFault.TheVariants as fault
use Rattle.vrp_text.specs.declared.lexer.keyword.Keyword.{Keyword}
use Rattle.vrp_text.specs.declared.lexer.keyword.Keyword.TheVariants as keyword
use Rattle.vrp_text.specs.declared.section.Content.{Content}
use Rattle.vrp_text.specs.declared.section.Content.TheVariants.{Nothing, Anything, Numbers}
use Rattle.vrp_text.specs.declared.section.Section.{Section}
use Rattle.vrp_text.specs.declared.section.Section.TheVariants as section
use Rattle.vrp_text.specs.declared.lexer.limits.TheConstants.{MAX_DEMAND, MAX_NODE}
use Rattle.vrp_model.specs.declared.limits.TheConstants.{MAX_COORDINATE, MAX_WEIGHT}

-- a fault on this line
abbrev pub at_line : ℕ → FileLineFault → TextError
at_line line fault.DataOutside = error.DataOutside line
at_line line fault.UnknownKeyword = error.UnknownKeyword line
at_line line fault.Repeated = error.Repeated line
at_line line fault.BadValue = error.BadValue line
at_line line fault.Unsupported = error.Unsupported line
at_line line fault.BadNumber = error.BadNumber line
at_line line fault.NotWhole = error.NotWhole line

-- the lowest and the highest number allowed at a position of a section, counted from 0
abbrev pub lowest : Section → ℕ → ℤ
lowest section.Coordinates place = if place % 3 == 0 then neg_ℤ MAX_NODE else neg_ℤ MAX_COORDINATE
lowest section.Weights place = pos 0
lowest section.Demands place = if place % 2 == 0 then neg_ℤ MAX_NODE else pos 0
lowest section.Depots place = neg_ℤ MAX_NODE

abbrev pub highest : Section → ℕ → ℤ
highest section.Coordinates place = if place % 3 == 0 then MAX_NODE else MAX_COORDINATE
highest section.Weights place = pos MAX_WEIGHT
highest section.Demands place = if place % 2 == 0 then MAX_NODE else pos MAX_DEMAND
highest section.Depots place = MAX_NODE

abbrev pub token_number : Section → ℕ → List ℕ → Result ℤ FileLineFault
token_number section place token = number_of (lowest section place) (highest section place) token

abbrev pub fault_of : Result ℤ FileLineFault → Option FileLineFault
fault_of (Ok number) = None
fault_of (Err fault) = Some fault

-- the fault of the first faulty token; the first of these tokens is at this position of the section
abbrev pub tokens_fault : Section → ℕ → List (List ℕ) → Option FileLineFault
tokens_fault section place [] = None
tokens_fault section place (token ∷ tokens) = option_or (fault_of (token_number section place token)) (tokens_fault section (place + 1) tokens)

abbrev pub on_line : ℕ → Option FileLineFault → Option TextError
on_line line None = None
on_line line (Some fault) = Some (at_line line fault)

-- the fault of the first faulty line; the first of these lines has this number
abbrev pub data_fault : Section → ℕ → ℕ → List (List (List ℕ)) → Option TextError
data_fault section line place [] = None
data_fault section line place (tokens ∷ lines) =
    option_or (on_line line (tokens_fault section place tokens)) (data_fault section (line + 1) (place + length tokens) lines)

-- the first line that is not blank, if none may have data
abbrev pub outside_fault : ℕ → List (List (List ℕ)) → Option TextError
outside_fault line [] = None
outside_fault line (tokens ∷ lines) = if nat_lt 0 (length tokens) then Some (error.DataOutside line) else outside_fault (line + 1) lines

-- the number of a token without fault
abbrev pub number_or_zero : Result ℤ FileLineFault → ℤ
number_or_zero (Ok number) = number
number_or_zero (Err fault) = pos 0

abbrev pub numbers_from : Section → ℕ → List (List ℕ) → List ℤ
numbers_from section place [] = []
numbers_from section place (token ∷ tokens) = number_or_zero (token_number section place token) ∷ numbers_from section (place + 1) tokens

-- the numbers in data lines, from this position of the section on
abbrev pub data_numbers : Section → ℕ → List (List (List ℕ)) → List ℤ
data_numbers section place [] = []
data_numbers section place (tokens ∷ lines) = numbers_from section place tokens ++ data_numbers section (place + length tokens) lines

-- What the data lines behind a keyword may contain: nothing, anything, which is not read, or the numbers of a section. An
-- explicit file uses its weights and skips its coordinates; any other file does the reverse.
abbrev pub content_of : Bool → Option Keyword → Content
content_of explicit None = Nothing
content_of explicit (Some keyword.Remark) = Nothing
content_of explicit (Some keyword.Display) = Anything
content_of explicit (Some keyword.Unsupported) = Nothing
content_of explicit (Some keyword.End) = Nothing
content_of explicit (Some (keyword.Key key.Problem)) = Nothing
content_of explicit (Some (keyword.Key key.Dimension)) = Nothing
content_of explicit (Some (keyword.Key key.Capacity)) = Nothing
content_of explicit (Some (keyword.Key key.WeightKind)) = Nothing
content_of explicit (Some (keyword.Key key.WeightFormat)) = Nothing
content_of explicit (Some (keyword.Key key.NodeCoord)) = if explicit then Anything else Numbers section.Coordinates
content_of explicit (Some (keyword.Key key.EdgeWeight)) = if explicit then Numbers section.Weights else Anything
content_of explicit (Some (keyword.Key key.Demand)) = Numbers section.Demands
content_of explicit (Some (keyword.Key key.Depot)) = Numbers section.Depots

abbrev pub content_fault : Content → ℕ → List (List (List ℕ)) → Option TextError
content_fault Nothing line lines = outside_fault line lines
content_fault Anything line lines = None
content_fault (Numbers section) line lines = data_fault section line 0 lines

-- the numbers of a part; none if they are not used
abbrev pub content_numbers : Content → List (List (List ℕ)) → List ℤ
content_numbers Nothing lines = []
content_numbers Anything lines = []
content_numbers (Numbers section) lines = data_numbers section 0 lines

-- each number is allowed at its position; the first one is at this position
abbrev pub AreWithin : Section → ℕ → List ℤ → Type 0
AreWithin section place numbers =
    (k : ℕ) → k < length numbers → (lowest section (place + k) ≤ℤ get_or numbers k (pos 0)) × (get_or numbers k (pos 0) ≤ℤ highest section (place + k))

abbrev pub FitContent : Content → List ℤ → Type 0
FitContent Nothing numbers = numbers ≡ []
FitContent Anything numbers = numbers ≡ []
FitContent (Numbers section) numbers = AreWithin section 0 numbers
