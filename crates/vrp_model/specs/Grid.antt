-- The weights between the nodes of a file, and when they are the distances of the nodes' points.
use Rattle.std.specs.Prelude.{◌≡◌, ℕ, ◌+◌, ◌-◌, ◌*◌, ◌≤◌, ℤ, neg_ℤ, ◌≤ℤ◌, Some, List, length, slice_get, slice_index}
use Rattle.vrp_model.specs.declared.metric.Metric.{Metric}
use Rattle.vrp_model.specs.Distance.{IsDistance}
use Rattle.vrp_model.specs.declared.limits.TheConstants.{MAX_COORDINATE, MAX_NODES, MAX_WEIGHT}

-- a weight from each node to each node, row by row; nodes are numbered from 1
pub record Grid : Type 0 where
  pub nodes : ℕ
  pub entries : List ℕ

abbrev pub grid_of : ℕ → List ℕ → Grid
grid_of nodes entries = record { nodes = nodes; entries = entries }

abbrev pub entry_at : Grid → ℕ → ℕ → ℕ
entry_at grid from to = slice_index grid.entries ((from - 1) * grid.nodes + (to - 1))

-- an invariant of every such grid
pub record IsGrid (grid : Grid) : Type 0 where
  pub some : 1 ≤ grid.nodes
  pub few : grid.nodes ≤ MAX_NODES
  pub square : length grid.entries ≡ grid.nodes * grid.nodes
  pub small : (k : ℕ) → slice_index grid.entries k ≤ MAX_WEIGHT

abbrev pub IsCoordinate : ℤ → Type 0
IsCoordinate z = (neg_ℤ MAX_COORDINATE ≤ℤ z) × (z ≤ℤ MAX_COORDINATE)

-- each weight is the distance of its two nodes' points; node 1 has the first point
pub record HasDistances (metric : Metric) (points : List (ℤ × ℤ)) (grid : Grid) : Type 0 where
  pub count : grid.nodes ≡ length points
  pub each : (i j : ℕ) (from to : ℤ × ℤ) → slice_get points i ≡ Some from → slice_get points j ≡ Some to → IsDistance metric from to (entry_at grid (i + 1) (j + 1))
