-- The meaning of a CVRP file: a problem, or the reason for its refusal (TSPLIB 95, section 1, type CVRP).
use Rattle.std.specs.Prelude.{◌≡◌, ◌≢◌, ◌⊎◌, ℕ, unsigned_abs, nat_lt, if◌then◌else◌, Option, Some, None, Result, Ok, Err, List, [], length, map}
use Rattle.std.specs.Option.{option_or}
use Rattle.vrp_model.specs.Grid.{Grid, HasDistances}
use Rattle.vrp_model.specs.Layout.{HasEntries}
use Rattle.vrp_model.specs.Problem.{Problem}
use Rattle.vrp_model.specs.Refusal.{IsRefusal}
use Rattle.vrp_model.specs.Request.{Request, request_of, problem_of, IsAcceptable}
use Rattle.vrp_model.specs.declared.instance.InstanceError.{InstanceError}
use Rattle.vrp_model.specs.declared.instance.InstanceError.TheVariants as refusal
use Rattle.vrp_text.specs.Complete.{Complete, Source, Points, Matrix, complete_of, count_fault, nodes_fault, listed_depots, points_of, demands_of}
use Rattle.vrp_text.specs.Line.{Line, lines_of}
use Rattle.vrp_text.specs.Part.{before_end, leading_data, parts_from}
use Rattle.vrp_text.specs.Section.{outside_fault}
use Rattle.vrp_text.specs.Stated.{Stated, is_explicit, parts_fault, stated_by}
use Rattle.vrp_text.specs.declared.error.TextError.{TextError}
use Rattle.vrp_text.specs.declared.error.TextError.TheVariants as error
use Rattle.vrp_text.specs.declared.lexer.limits.TheConstants.{MAX_BYTES}

-- the fault of the first faulty line
abbrev pub file_line_fault : List Line → Option TextError
file_line_fault lines = option_or (outside_fault 1 (leading_data lines)) (parts_fault (is_explicit (parts_from 1 lines)) [] (parts_from 1 lines))

abbrev pub or_fault : {X : Type 0} → Option TextError → Result X TextError → Result X TextError
or_fault None answer = answer
or_fault (Some fault) answer = Err fault

-- checks the counts, then the nodes
abbrev pub checked : Result Complete TextError → Result Complete TextError
checked (Err fault) = Err fault
checked (Ok complete) = or_fault (count_fault complete) (or_fault (nodes_fault complete) (Ok complete))

-- the statements of the lines
abbrev pub all_stated : List Line → Stated
all_stated lines = stated_by (is_explicit (parts_from 1 lines)) (parts_from 1 lines)

-- The statements of the lines, or the first fault: of a line, a missing key, a wrong count, a bad node.
abbrev pub reading_of_lines : List Line → Result Complete TextError
reading_of_lines lines = or_fault (file_line_fault lines) (checked (complete_of (all_stated lines)))

-- A file has at most `MAX_BYTES` bytes, and its lines are those before EOF.
abbrev pub reading_of : List ℕ → Result Complete TextError
reading_of bytes = if nat_lt MAX_BYTES (length bytes) then Err error.TooLong else reading_of_lines (before_end (lines_of bytes))

-- the weights between all nodes
abbrev pub HasWeights : ℕ → Source → Grid → Type 0
HasWeights nodes (Points metric numbers) grid = HasDistances metric (points_of nodes numbers) grid
HasWeights nodes (Matrix layout numbers) grid = (grid.nodes ≡ nodes) × HasEntries layout (map unsigned_abs numbers) grid

-- the stated demands, capacity and depots over a grid of weights, with the chosen node
abbrev pub request_from : Complete → Option ℕ → Grid → Request
request_from complete chosen grid =
    request_of grid (demands_of complete.nodes complete.demands) complete.capacity (map unsigned_abs (listed_depots complete.depots)) chosen

-- the bytes are a CVRP file that means this problem, with this node chosen as the depot
pub record MeansProblem (bytes : List ℕ) (chosen : Option ℕ) (problem : Problem) : Type 0 where
  pub complete : Complete
  pub read : reading_of bytes ≡ Ok complete
  pub grid : Grid
  pub weights : HasWeights complete.nodes complete.source grid
  pub acceptable : IsAcceptable (request_from complete chosen grid)
  pub meant : problem ≡ problem_of (request_from complete chosen grid)

-- The file can be read, but no instance can be made from it, for any weights. Lack of memory is not such a fault.
pub record MeansNoInstance (bytes : List ℕ) (chosen : Option ℕ) (fault : InstanceError) : Type 0 where
  pub complete : Complete
  pub read : reading_of bytes ≡ Ok complete
  pub refused : (grid : Grid) → IsRefusal (request_from complete chosen grid) fault
  pub of_file : fault ≢ refusal.OutOfMemory

-- The bytes are refused for this reason: they can't be read, or no instance can be made from their statements.
abbrev pub MeansRefusal : List ℕ → Option ℕ → TextError → Type 0
MeansRefusal bytes chosen fault = (reading_of bytes ≡ Err fault) ⊎ ((of_instance : InstanceError) × (fault ≡ error.Instance of_instance) × MeansNoInstance bytes chosen of_instance)
