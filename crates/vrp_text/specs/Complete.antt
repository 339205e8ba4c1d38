-- What is missing in a CVRP file, which counts and node numbers are wrong, and what a file without such faults states (TSPLIB
-- 95, sections 1.1 and 1.2).
use Rattle.std.specs.Prelude.{◌++◌, take, ℕ, ◌+◌, ◌*◌, ℤ, pos, neg_ℤ, unsigned_abs, Bool, not, ◌&&◌, ◌==◌, if◌then◌else◌, Option, Some, None, Result, Ok, Err, List, [], ◌∷◌, length, map, get_or}
use Rattle.std.specs.List.{list_any, position_or_len, range_with_len}
use Rattle.std.specs.Option.{option_or}
use Rattle.std.specs.Ordering.{int_eq}
use Rattle.std.specs.Int.Signed.{le_z}
use Rattle.vrp_model.specs.Layout.{cells}
use Rattle.vrp_model.specs.declared.layout.Layout.{Layout}
use Rattle.vrp_model.specs.declared.metric.Metric.{Metric}
use Rattle.vrp_text.specs.Stated.{Stated}
use Rattle.vrp_text.specs.declared.lexer.key.Key.{Key}
use Rattle.vrp_text.specs.declared.lexer.key.Key.TheVariants as key
use Rattle.vrp_text.specs.declared.error.TextError.{TextError}
use Rattle.vrp_text.specs.declared.error.TextError.TheVariants.{Missing, WrongCount, BadNode}
use Rattle.vrp_text.specs.declared.lexer.value.WeightKind.{WeightKind}
use Rattle.vrp_text.specs.declared.lexer.value.WeightKind.TheVariants as kind
use Rattle.vrp_text.specs.declared.lexer.value.WeightFormat.{WeightFormat}
use Rattle.vrp_text.specs.declared.lexer.value.WeightFormat.TheVariants as format

infixl 10 ◌>>=◌
abbrev pub ◌>>=◌ : {A B : Type 0} → Result A TextError → (A → Result B TextError) → Result B TextError
(Ok x) >>= f = f x
(Err e) >>= f = Err e

abbrev pub needed : {A : Type 0} → Key → Option A → Result A TextError
needed key None = Err (Missing key)
needed key (Some a) = Ok a

-- The source of the weights: a metric and the numbers of the coordinates, three for each node, or a layout and the numbers of
-- a matrix.
pub data Source : Type 0 where
  Points : Metric → List ℤ → Source
  Matrix : Layout → List ℤ → Source

-- a file with nothing missing
pub record Complete : Type 0 where
  pub nodes : ℕ
  pub capacity : ℕ
  pub source : Source
  -- a node and its demand, alternating
  pub demands : List ℤ
  -- the numbers of the depots, and any numbers after them
  pub depots : List ℤ

-- In an explicit file the format `FUNCTION` is a fault of its line, so here the format is a layout.
abbrev pub matrix_from : WeightFormat → List ℤ → Result Source TextError
matrix_from format.Function weights = Err (Missing key.WeightFormat)
matrix_from (format.Matrix layout) weights = Ok (Matrix layout weights)

abbrev pub matrix_of : Option WeightFormat → Option (List ℤ) → Result Source TextError
matrix_of format weights =
    needed key.WeightFormat format >>= λ format.
    needed key.EdgeWeight weights >>= λ weights.
    matrix_from format weights

abbrev pub source_of : WeightKind → Stated → Result Source TextError
source_of (kind.Points metric) stated = needed key.NodeCoord stated.coordinates >>= λ numbers. Ok (Points metric numbers)
source_of kind.Explicit stated = matrix_of stated.format stated.weights

-- the statements, or the first missing key
abbrev pub complete_of : Stated → Result Complete TextError
complete_of stated =
    needed key.Problem stated.problem >>= λ problem.
    needed key.Dimension stated.nodes >>= λ nodes.
    needed key.Capacity stated.capacity >>= λ capacity.
    needed key.WeightKind stated.kind >>= λ kind.
    source_of kind stated >>= λ source.
    needed key.Demand stated.demands >>= λ demands.
    needed key.Depot stated.depots >>= λ depots.
    Ok (record { nodes = nodes; capacity = capacity; source = source; demands = demands; depots = depots })

-- the depots: the numbers before the first -1, or all if there is none
abbrev pub listed_depots : List ℤ → List ℤ
listed_depots numbers = take (position_or_len (λ number. int_eq number (neg_ℤ (pos 1))) numbers) numbers

abbrev pub source_count_fault : ℕ → Source → Option TextError
source_count_fault nodes (Points metric numbers) = if length numbers == 3 * nodes then None else Some (WrongCount key.NodeCoord)
source_count_fault nodes (Matrix layout numbers) = if length numbers == length (cells layout nodes) then None else Some (WrongCount key.EdgeWeight)

-- a node, x and y for each node; a weight for each cell of the layout; a node and a demand for each node; a depot
abbrev pub count_fault : Complete → Option TextError
count_fault complete =
    option_or (source_count_fault complete.nodes complete.source)
    (option_or (if length complete.demands == 2 * complete.nodes then None else Some (WrongCount key.Demand))
    (if length (listed_depots complete.depots) == 0 then Some (WrongCount key.Depot) else None))

abbrev pub is_node : ℕ → ℤ → Bool
is_node nodes number = le_z (pos 1) number && le_z number (pos nodes)

-- the first number that is not a node, or that is given a second time
abbrev pub bad_node : ℕ → List ℤ → List ℤ → Option ℤ
bad_node nodes given [] = None
bad_node nodes given (number ∷ numbers) =
    if is_node nodes number && not (list_any (int_eq number) given) then bad_node nodes (given ++ number ∷ []) numbers else Some number

-- the first number that is not a node
abbrev pub no_node : ℕ → List ℤ → Option ℤ
no_node nodes [] = None
no_node nodes (number ∷ numbers) = if is_node nodes number then no_node nodes numbers else Some number

-- the first number of each row, of rows stored one after the other
abbrev pub row_nodes : ℕ → ℕ → List ℤ → List ℤ
row_nodes width rows numbers = map (λ row. get_or numbers (width * row) (pos 0)) (range_with_len 0 rows)

abbrev pub node_fault : Key → Option ℤ → Option TextError
node_fault key None = None
node_fault key (Some number) = Some (BadNode key number)

abbrev pub source_node_fault : ℕ → Source → Option TextError
source_node_fault nodes (Points metric numbers) = node_fault key.NodeCoord (bad_node nodes [] (row_nodes 3 nodes numbers))
source_node_fault nodes (Matrix layout numbers) = None

abbrev pub nodes_fault : Complete → Option TextError
nodes_fault complete =
    option_or (source_node_fault complete.nodes complete.source)
    (option_or (node_fault key.Demand (bad_node complete.nodes [] (row_nodes 2 complete.nodes complete.demands)))
    (node_fault key.Depot (no_node complete.nodes (listed_depots complete.depots))))

-- the value beside each node, by rising node
abbrev pub by_node : {X : Type 0} → X → ℕ → List ℤ → List X → List X
by_node absent nodes given beside = map (λ node. get_or beside (position_or_len (int_eq (pos node)) given) absent) (range_with_len 1 nodes)

-- the two coordinates of each row of coordinates
abbrev pub row_points : ℕ → List ℤ → List (ℤ × ℤ)
row_points rows numbers = map (λ row. (get_or numbers (3 * row + 1) (pos 0), get_or numbers (3 * row + 2) (pos 0))) (range_with_len 0 rows)

-- the demand of each row of demands
abbrev pub row_demands : ℕ → List ℤ → List ℕ
row_demands rows numbers = map (λ row. unsigned_abs (get_or numbers (2 * row + 1) (pos 0))) (range_with_len 0 rows)

abbrev pub points_of : ℕ → List ℤ → List (ℤ × ℤ)
points_of nodes numbers = by_node (pos 0, pos 0) nodes (row_nodes 3 nodes numbers) (row_points nodes numbers)

abbrev pub demands_of : ℕ → List ℤ → List ℕ
demands_of nodes numbers = by_node 0 nodes (row_nodes 2 nodes numbers) (row_demands nodes numbers)
