-- How one more part changes the statements of a file.
use Rattle.std.specs.Prelude.{ℕ, ◌≤◌, ℤ, Bool, Option, Some, None, List, IfSome}
use Rattle.std.specs.Option.{option_or}
use Rattle.std.specs.Result.{result_ok}
use Rattle.vrp_text.specs.Complete.{Complete, Source, Points, Matrix}
use Rattle.vrp_text.specs.Section.{AreWithin, on_line, content_of, content_fault}
use Rattle.vrp_text.specs.Stated.{Stated, keyword_fault}
use Rattle.vrp_text.specs.Value.{value_of, problem_type, dimension, capacity, weight_kind, weight_format}
use Rattle.vrp_text.specs.declared.lexer.key.Key.{Key}
use Rattle.vrp_text.specs.declared.lexer.key.Key.TheVariants as key
use Rattle.vrp_text.specs.declared.error.TextError.{TextError}
use Rattle.vrp_text.specs.declared.lexer.keyword.Keyword.{Keyword}
use Rattle.vrp_text.specs.declared.lexer.keyword.Keyword.TheVariants as keyword
use Rattle.vrp_text.specs.declared.section.Section.TheVariants as section
use Rattle.vrp_model.specs.declared.limits.TheConstants.{MAX_CAPACITY, MAX_NODES}

abbrev pub nothing_stated : Stated
nothing_stated = record {
  problem = None;
  nodes = None;
  capacity = None;
  kind = None;
  format = None;
  coordinates = None;
  weights = None;
  demands = None;
  depots = None;
}

-- the statements with the value of a key added; a section has none
abbrev pub with_value : Bool → Key → List (List ℕ) → Stated → Stated
with_value explicit key.Problem tokens stated = record stated { problem = result_ok (problem_type (value_of tokens)) }
with_value explicit key.Dimension tokens stated = record stated { nodes = result_ok (dimension (value_of tokens)) }
with_value explicit key.Capacity tokens stated = record stated { capacity = result_ok (capacity (value_of tokens)) }
with_value explicit key.WeightKind tokens stated = record stated { kind = result_ok (weight_kind (value_of tokens)) }
with_value explicit key.WeightFormat tokens stated = record stated { format = result_ok (weight_format explicit (value_of tokens)) }
with_value explicit key.NodeCoord tokens stated = stated
with_value explicit key.EdgeWeight tokens stated = stated
with_value explicit key.Demand tokens stated = stated
with_value explicit key.Depot tokens stated = stated

-- the statements with the numbers of a section added
abbrev pub with_numbers : Key → List ℤ → Stated → Stated
with_numbers key.Problem numbers stated = stated
with_numbers key.Dimension numbers stated = stated
with_numbers key.Capacity numbers stated = stated
with_numbers key.WeightKind numbers stated = stated
with_numbers key.WeightFormat numbers stated = stated
with_numbers key.NodeCoord numbers stated = record stated { coordinates = Some numbers }
with_numbers key.EdgeWeight numbers stated = record stated { weights = Some numbers }
with_numbers key.Demand numbers stated = record stated { demands = Some numbers }
with_numbers key.Depot numbers stated = record stated { depots = Some numbers }

-- the numbers are allowed in the section of a key
abbrev pub FitKey : Key → List ℤ → Type 0
FitKey key.Problem numbers = Unit {0}
FitKey key.Dimension numbers = Unit {0}
FitKey key.Capacity numbers = Unit {0}
FitKey key.WeightKind numbers = Unit {0}
FitKey key.WeightFormat numbers = Unit {0}
FitKey key.NodeCoord numbers = AreWithin section.Coordinates 0 numbers
FitKey key.EdgeWeight numbers = AreWithin section.Weights 0 numbers
FitKey key.Demand numbers = AreWithin section.Demands 0 numbers
FitKey key.Depot numbers = AreWithin section.Depots 0 numbers

-- an invariant of all statements
pub record AreInRange (stated : Stated) : Type 0 where
  pub some_nodes : IfSome stated.nodes (λ nodes. 1 ≤ nodes)
  pub few_nodes : IfSome stated.nodes (λ nodes. nodes ≤ MAX_NODES)
  pub small_capacity : IfSome stated.capacity (λ capacity. capacity ≤ MAX_CAPACITY)
  pub coordinates : IfSome stated.coordinates (AreWithin section.Coordinates 0)
  pub weights : IfSome stated.weights (AreWithin section.Weights 0)
  pub demands : IfSome stated.demands (AreWithin section.Demands 0)
  pub depots : IfSome stated.depots (AreWithin section.Depots 0)

-- the statements with all those of a part added
abbrev pub with_part : Bool → Option Keyword → List (List ℕ) → List ℤ → Stated → Stated
with_part explicit None tokens numbers stated = stated
with_part explicit (Some keyword.Remark) tokens numbers stated = stated
with_part explicit (Some keyword.Display) tokens numbers stated = stated
with_part explicit (Some keyword.Unsupported) tokens numbers stated = stated
with_part explicit (Some keyword.End) tokens numbers stated = stated
with_part explicit (Some (keyword.Key key)) tokens numbers stated = with_numbers key numbers (with_value explicit key tokens stated)

-- the first fault of a part whose data lines begin on this line
abbrev pub fault_of_part : Bool → (Key → Bool) → ℕ → Option Keyword → List (List ℕ) → ℕ → List (List (List ℕ)) → Option TextError
fault_of_part explicit borne line keyword tokens next data_lines =
    option_or (on_line line (keyword_fault explicit borne keyword tokens)) (content_fault (content_of explicit keyword) next data_lines)

-- the statements with those of a keyword's line added
abbrev pub with_keyword : Bool → Option Keyword → List (List ℕ) → Stated → Stated
with_keyword explicit None tokens stated = stated
with_keyword explicit (Some keyword.Remark) tokens stated = stated
with_keyword explicit (Some keyword.Display) tokens stated = stated
with_keyword explicit (Some keyword.Unsupported) tokens stated = stated
with_keyword explicit (Some keyword.End) tokens stated = stated
with_keyword explicit (Some (keyword.Key key)) tokens stated = with_value explicit key tokens stated

-- the numbers that give the weights are allowed in their section
abbrev pub IsSourceInRange : Source → Type 0
IsSourceInRange (Points metric numbers) = AreWithin section.Coordinates 0 numbers
IsSourceInRange (Matrix layout numbers) = AreWithin section.Weights 0 numbers

-- an invariant of a complete file
pub record IsInRange (complete : Complete) : Type 0 where
  pub some_nodes : 1 ≤ complete.nodes
  pub few_nodes : complete.nodes ≤ MAX_NODES
  pub small_capacity : complete.capacity ≤ MAX_CAPACITY
  pub source : IsSourceInRange complete.source
  pub demands : AreWithin section.Demands 0 complete.demands
