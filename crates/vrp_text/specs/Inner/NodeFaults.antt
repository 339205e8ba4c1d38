-- Faults of the nodes in a section, and facts about the nodes it gives.
use Rattle.std.specs.Prelude.{ℕ, ◌≤◌, ◌<◌, ℤ, Option, List, [], length, slice_index}
use Rattle.vrp_text.specs.declared.lexer.key.Key.TheVariants as key
use Rattle.vrp_model.specs.Grid.{IsCoordinate}
use Rattle.vrp_text.specs.Complete.{bad_node, no_node, node_fault, row_nodes}
use Rattle.vrp_text.specs.declared.error.TextError.{TextError}

-- the first row of coordinates whose number is not a node, or is given a second time
abbrev pub coordinates_fault : ℕ → List ℤ → Option TextError
coordinates_fault nodes numbers = node_fault key.NodeCoord (bad_node nodes [] (row_nodes 3 nodes numbers))

-- the first row of demands whose number is not a node, or is given a second time
abbrev pub demands_fault : ℕ → List ℤ → Option TextError
demands_fault nodes numbers = node_fault key.Demand (bad_node nodes [] (row_nodes 2 nodes numbers))

-- the first depot that is not a node
abbrev pub depots_fault : ℕ → List ℤ → Option TextError
depots_fault nodes numbers = node_fault key.Depot (no_node nodes numbers)

-- the coordinates of the point are within the limit
abbrev pub IsPoint : ℤ × ℤ → Type 0
IsPoint point = IsCoordinate point.0 × IsCoordinate point.1

-- each number is at least this
abbrev pub AreAtLeast : ℕ → List ℕ → Type 0
AreAtLeast least numbers = (k : ℕ) → k < length numbers → least ≤ slice_index numbers k

-- each number is at most this
abbrev pub AreAtMost : ℕ → List ℕ → Type 0
AreAtMost most numbers = (k : ℕ) → k < length numbers → slice_index numbers k ≤ most
