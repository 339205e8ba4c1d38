-- The values of keywords (TSPLIB 95, section 1.1).
use Rattle.std.specs.Prelude.{ℕ, ℤ, pos, unsigned_abs, Bool, if◌then◌else◌, nat_lt, Option, Some, None, Result, Ok, Err, List, [], ◌∷◌, length, codes, slice_index_or}
use Rattle.std.specs.List.{list_any}
use Rattle.std.specs.Map.{lookup}
use Rattle.std.specs.Str.{bytes_eq}
use Rattle.vrp_model.specs.declared.metric.Metric.TheVariants as metric
use Rattle.vrp_model.specs.declared.layout.Layout.TheVariants as layout
use Rattle.vrp_text.specs.declared.lexer.fault.FileLineFault.{FileLineFault}
use Rattle.vrp_text.specs.declared.lexer.fault.FileLineFault.TheVariants.{BadValue, Unsupported}
use Rattle.vrp_text.specs.declared.lexer.value.WeightKind.{WeightKind}
use Rattle.vrp_text.specs.declared.lexer.value.WeightKind.TheVariants as kind
use Rattle.vrp_text.specs.declared.lexer.value.WeightFormat.{WeightFormat}
use Rattle.vrp_text.specs.declared.lexer.value.WeightFormat.TheVariants as format
use Rattle.vrp_text.specs.Numeral.{number_of}
use Rattle.vrp_model.specs.declared.limits.TheConstants.{MAX_CAPACITY, MAX_NODES}

-- the first token behind a keyword, or nothing if there is none
abbrev pub value_of : List (List ℕ) → List ℕ
value_of tokens = slice_index_or tokens 0 []

-- A word of the standard that this project leaves out is not supported; any other word is a bad value.
abbrev pub refused_word : List (List ℕ) → List ℕ → FileLineFault
refused_word left_out word = if list_any (bytes_eq word) left_out then Unsupported else BadValue

abbrev pub word_or_fault : {X : Type 0} → FileLineFault → Option X → Result X FileLineFault
word_or_fault fault None = Err fault
word_or_fault fault (Some x) = Ok x

-- the values of TYPE
abbrev pub problem_types : List (List ℕ × Unit {0})
problem_types = (codes "CVRP", tt) ∷ []

abbrev pub other_problem_types : List (List ℕ)
other_problem_types = codes "TSP" ∷ codes "ATSP" ∷ codes "SOP" ∷ codes "HCP" ∷ codes "TOUR" ∷ []

abbrev pub problem_type : List ℕ → Result (Unit {0}) FileLineFault
problem_type word = word_or_fault (refused_word other_problem_types word) (lookup (bytes_eq word) problem_types)

-- the values of EDGE_WEIGHT_TYPE
abbrev pub weight_kinds : List (List ℕ × WeightKind)
weight_kinds =
    (codes "EXPLICIT", kind.Explicit)
    ∷ (codes "EUC_2D", kind.Points metric.Euc2d)
    ∷ (codes "CEIL_2D", kind.Points metric.Ceil2d)
    ∷ (codes "MAN_2D", kind.Points metric.Man2d)
    ∷ (codes "MAX_2D", kind.Points metric.Max2d)
    ∷ (codes "ATT", kind.Points metric.Att)
    ∷ []

abbrev pub other_weight_kinds : List (List ℕ)
other_weight_kinds =
    codes "EUC_3D" ∷ codes "MAX_3D" ∷ codes "MAN_3D" ∷ codes "GEO" ∷ codes "XRAY1" ∷ codes "XRAY2" ∷ codes "SPECIAL" ∷ []

abbrev pub weight_kind : List ℕ → Result WeightKind FileLineFault
weight_kind word = word_or_fault (refused_word other_weight_kinds word) (lookup (bytes_eq word) weight_kinds)

-- the values of EDGE_WEIGHT_FORMAT
abbrev pub weight_formats : List (List ℕ × WeightFormat)
weight_formats =
    (codes "FUNCTION", format.Function)
    ∷ (codes "FULL_MATRIX", format.Matrix layout.FullMatrix)
    ∷ (codes "UPPER_ROW", format.Matrix layout.UpperRow)
    ∷ (codes "LOWER_ROW", format.Matrix layout.LowerRow)
    ∷ (codes "UPPER_DIAG_ROW", format.Matrix layout.UpperDiagRow)
    ∷ (codes "LOWER_DIAG_ROW", format.Matrix layout.LowerDiagRow)
    ∷ (codes "UPPER_COL", format.Matrix layout.UpperCol)
    ∷ (codes "LOWER_COL", format.Matrix layout.LowerCol)
    ∷ (codes "UPPER_DIAG_COL", format.Matrix layout.UpperDiagCol)
    ∷ (codes "LOWER_DIAG_COL", format.Matrix layout.LowerDiagCol)
    ∷ []

-- An explicit file has a matrix, so no function gives its weights.
abbrev pub fitting_format : Bool → WeightFormat → Result WeightFormat FileLineFault
fitting_format explicit format.Function = if explicit then Err BadValue else Ok format.Function
fitting_format explicit (format.Matrix layout) = Ok (format.Matrix layout)

abbrev pub format_or_fault : Bool → Option WeightFormat → Result WeightFormat FileLineFault
format_or_fault explicit None = Err BadValue
format_or_fault explicit (Some format) = fitting_format explicit format

abbrev pub weight_format : Bool → List ℕ → Result WeightFormat FileLineFault
weight_format explicit word = format_or_fault explicit (lookup (bytes_eq word) weight_formats)

-- a number that a keyword states, which is never negative; any fault makes it a bad value
abbrev pub stated_number : Result ℤ FileLineFault → Result ℕ FileLineFault
stated_number (Ok value) = Ok (unsigned_abs value)
stated_number (Err fault) = Err BadValue

abbrev pub dimension : List ℕ → Result ℕ FileLineFault
dimension word = stated_number (number_of (pos 1) (pos MAX_NODES) word)

abbrev pub capacity : List ℕ → Result ℕ FileLineFault
capacity word = stated_number (number_of (pos 1) (pos MAX_CAPACITY) word)

-- nothing may follow a section's keyword
abbrev pub no_value : List (List ℕ) → Result (Unit {0}) FileLineFault
no_value tokens = if nat_lt 0 (length tokens) then Err BadValue else Ok tt
