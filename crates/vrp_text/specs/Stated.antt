-- The statements of a CVRP file's parts, and the first fault of a line.
use Rattle.std.specs.Prelude.{ℕ, ◌+◌, ℤ, Bool, false, ◌==◌, if◌then◌else◌, Option, Some, None, option_map, is_some, Result, Ok, Err, List, [], ◌∷◌, ◌++◌, codes}
use Rattle.std.specs.List.{find, list_any}
use Rattle.std.specs.Option.{option_or, option_and_then}
use Rattle.std.specs.Result.{result_ok}
use Rattle.std.specs.Str.{bytes_eq}
use Rattle.vrp_text.specs.Keyword.{rank}
use Rattle.vrp_text.specs.Part.{Part}
use Rattle.vrp_text.specs.Section.{content_of, content_fault, content_numbers, on_line}
use Rattle.vrp_text.specs.Value.{value_of, problem_type, dimension, capacity, weight_kind, weight_format, no_value}
use Rattle.vrp_text.specs.declared.lexer.key.Key.{Key}
use Rattle.vrp_text.specs.declared.lexer.key.Key.TheVariants as key
use Rattle.vrp_text.specs.declared.error.TextError.{TextError}
use Rattle.vrp_text.specs.declared.lexer.fault.FileLineFault.{FileLineFault}
use Rattle.vrp_text.specs.declared.lexer.fault.FileLineFault.TheVariants.{UnknownKeyword, Unsupported, Repeated}
use Rattle.vrp_text.specs.declared.lexer.keyword.Keyword.{Keyword}
use Rattle.vrp_text.specs.declared.lexer.keyword.Keyword.TheVariants as keyword
use Rattle.vrp_text.specs.declared.lexer.value.WeightKind.{WeightKind}
use Rattle.vrp_text.specs.declared.lexer.value.WeightFormat.{WeightFormat}

abbrev pub is_same_key : Key → Option Keyword → Bool
is_same_key key None = false
is_same_key key (Some keyword.Remark) = false
is_same_key key (Some keyword.Display) = false
is_same_key key (Some keyword.Unsupported) = false
is_same_key key (Some keyword.End) = false
is_same_key key (Some (keyword.Key other)) = rank key == rank other

-- whether a part begins with the keyword of a key
abbrev pub bears : Key → Part → Bool
bears key part = is_same_key key part.keyword

-- the first part that bears a key
abbrev pub part_of : Key → List Part → Option Part
part_of key parts = find (bears key) parts

-- A file is explicit if its first EDGE_WEIGHT_TYPE is EXPLICIT.
abbrev pub is_explicit : List Part → Bool
is_explicit parts = is_some (option_and_then (λ part. if bytes_eq (value_of part.behind) (codes "EXPLICIT") then Some part else None) (part_of key.WeightKind parts))

abbrev pub fault_in : {X : Type 0} → Result X FileLineFault → Option FileLineFault
fault_in (Ok x) = None
fault_in (Err fault) = Some fault

-- the fault of the tokens behind the keyword of a key
abbrev pub value_fault : Bool → Key → List (List ℕ) → Option FileLineFault
value_fault explicit key.Problem tokens = fault_in (problem_type (value_of tokens))
value_fault explicit key.Dimension tokens = fault_in (dimension (value_of tokens))
value_fault explicit key.Capacity tokens = fault_in (capacity (value_of tokens))
value_fault explicit key.WeightKind tokens = fault_in (weight_kind (value_of tokens))
value_fault explicit key.WeightFormat tokens = fault_in (weight_format explicit (value_of tokens))
value_fault explicit key.NodeCoord tokens = fault_in (no_value tokens)
value_fault explicit key.EdgeWeight tokens = fault_in (no_value tokens)
value_fault explicit key.Demand tokens = fault_in (no_value tokens)
value_fault explicit key.Depot tokens = fault_in (no_value tokens)

-- The fault of a line that begins with this keyword, given the keys of earlier lines: each key may occur once.
abbrev pub keyword_fault : Bool → (Key → Bool) → Option Keyword → List (List ℕ) → Option FileLineFault
keyword_fault explicit borne None tokens = Some UnknownKeyword
keyword_fault explicit borne (Some keyword.Unsupported) tokens = Some Unsupported
keyword_fault explicit borne (Some keyword.Remark) tokens = None
keyword_fault explicit borne (Some keyword.End) tokens = None
keyword_fault explicit borne (Some keyword.Display) tokens = fault_in (no_value tokens)
keyword_fault explicit borne (Some (keyword.Key key)) tokens = if borne key then Some Repeated else value_fault explicit key tokens

-- whether one of these parts bears a key
abbrev pub is_borne : List Part → Key → Bool
is_borne parts key = list_any (bears key) parts

-- the first fault of a part's lines
abbrev pub part_fault : Bool → List Part → Part → Option TextError
part_fault explicit earlier part =
    option_or
    (on_line part.line (keyword_fault explicit (is_borne earlier) part.keyword part.behind))
    (content_fault (content_of explicit part.keyword) (part.line + 1) part.data_lines)

-- the first fault of the lines of these parts, which follow earlier ones
abbrev pub parts_fault : Bool → List Part → List Part → Option TextError
parts_fault explicit earlier [] = None
parts_fault explicit earlier (part ∷ parts) = option_or (part_fault explicit earlier part) (parts_fault explicit (earlier ++ part ∷ []) parts)

-- the statements of keywords and sections, each if it is present
pub record Stated : Type 0 where
  pub problem : Option (Unit {0})
  pub nodes : Option ℕ
  pub capacity : Option ℕ
  pub kind : Option WeightKind
  pub format : Option WeightFormat
  pub coordinates : Option (List ℤ)
  pub weights : Option (List ℤ)
  pub demands : Option (List ℤ)
  pub depots : Option (List ℤ)

-- the value of the part that bears a key
abbrev pub value_in : {X : Type 0} → (List ℕ → Result X FileLineFault) → Key → List Part → Option X
value_in read key parts = option_and_then (λ part. result_ok (read (value_of part.behind))) (part_of key parts)

-- the numbers of the part that bears a key
abbrev pub numbers_in : Bool → Key → List Part → Option (List ℤ)
numbers_in explicit key parts = option_map (λ part. content_numbers (content_of explicit part.keyword) part.data_lines) (part_of key parts)

abbrev pub stated_by : Bool → List Part → Stated
stated_by explicit parts = record {
  problem = value_in problem_type key.Problem parts;
  nodes = value_in dimension key.Dimension parts;
  capacity = value_in capacity key.Capacity parts;
  kind = value_in weight_kind key.WeightKind parts;
  format = value_in (weight_format explicit) key.WeightFormat parts;
  coordinates = numbers_in explicit key.NodeCoord parts;
  weights = numbers_in explicit key.EdgeWeight parts;
  demands = numbers_in explicit key.Demand parts;
  depots = numbers_in explicit key.Depot parts;
}
