-- The meaning of a line of a solution in CVRPLIB's format: `Route #1: 5 2` or `Cost 521`. Letters may be small or capital,
-- and blanks may stand between all parts.
use Rattle.std.specs.Prelude.{ℕ, ℤ, pos, neg_ℤ, ◌==◌, ◌||◌, Bool, if◌then◌else◌, Result, Option, Some, None, List, [], ◌∷◌, codes, drop, map, slice_index}
use Rattle.std.specs.List.{after_first, before_first, list_any, slice_split}
use Rattle.std.specs.Str.{bytes_eq, str_to_ascii_lowercase}
use Rattle.vrp_text.specs.Line.{tokens_of}
use Rattle.vrp_text.specs.Numeral.{number_of}
use Rattle.vrp_text.specs.declared.lexer.fault.FileLineFault.{FileLineFault}
use Rattle.vrp_plan_text.specs.declared.reading.line.TheConstants.{MAX_NUMBER}

-- the whole number that a token writes, or the reason why it writes none
abbrev pub Number : Type 0
Number = Result ℤ FileLineFault

pub data Line : Type 0 where
  -- nothing
  Blank : Line
  -- the number of a route, and its stops
  Route : Number → List Number → Line
  -- a cost
  Cost : Number → Line
  -- none of these
  Unknown : Line

-- a token is this word, in small or capital letters
abbrev pub is_word : List ℕ → List ℕ → Bool
is_word word token = bytes_eq (str_to_ascii_lowercase token) word

-- the word of the cost may be followed by a colon, and only its number follows
abbrev pub cost_line : List (List ℕ) → Line
cost_line (cost ∷ []) = Cost (number_of (pos 0) MAX_NUMBER cost)
cost_line others = Unknown

-- the text without a leading sign #
abbrev pub without_hash : List ℕ → List ℕ
without_hash token = if slice_index token 0 == 35 then drop 1 token else token

-- The token of its number follows the word of a route. The sign # before it may be missing, or stand apart.
abbrev pub number_token : List (List ℕ) → Option (List ℕ)
number_token (word ∷ number ∷ []) = if bytes_eq number (codes "#") then None else Some (without_hash number)
number_token (word ∷ sign ∷ number ∷ []) = if bytes_eq sign (codes "#") then Some number else None
number_token others = None

abbrev pub route_line : Option (List ℕ) → List (List ℕ) → Line
route_line None stops = Unknown
route_line (Some number) stops = Route (number_of (pos 0) MAX_NUMBER number) (map (number_of (neg_ℤ MAX_NUMBER) MAX_NUMBER) stops)

abbrev pub is_colon : ℕ → Bool
is_colon byte = byte == 58

-- The stops of a route follow the first colon.
abbrev pub parted_line : List ℕ → Line
parted_line text =
    if list_any is_colon text
    then route_line (number_token (tokens_of (before_first is_colon text))) (tokens_of (after_first is_colon text))
    else Unknown

-- the line with this word as its first token, followed by these tokens
abbrev pub worded_line : List ℕ → List ℕ → List (List ℕ) → Line
worded_line text word tokens =
    if is_word (codes "cost") word || is_word (codes "cost:") word then cost_line tokens
    else if is_word (codes "route") word then parted_line text
    else Unknown

abbrev pub said_by : List ℕ → List (List ℕ) → Line
said_by text [] = Blank
said_by text (word ∷ tokens) = worded_line text word tokens

abbrev pub line_of : List ℕ → Line
line_of text = said_by text (tokens_of text)

-- the lines between line feeds
abbrev pub lines_of : List ℕ → List Line
lines_of text = map line_of (slice_split (λ byte. byte == 10) text)
