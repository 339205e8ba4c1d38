-- Where a problem's weight of an arc stands in the list of all weights.
use Rattle.std.proofs.Common.{◌≡◌, ℕ, ◌+◌, ◌-◌, ◌*◌, ◌≤◌, ◌<◌, List, length, get_or, slice_index, Fits, w64, arith}
use Rattle.std.proofs.lemmas.Nat.{mul-le, mul-add-lt}
use Rattle.std.proofs.lemmas.List.{get_or_read}
use Rattle.vrp_model.specs.Grid.{Grid, entry_at}
use Rattle.vrp_model.specs.Problem.{IsProblem, Problem, place_count, weight_of}

-- the place of the arc in the list, for code that has read the numbers one by one
pub arc_within : (p : Problem) (from to row count column : ℕ) → IsProblem p → from < place_count p → to < place_count p → row ≡ from → count ≡ place_count p → column ≡ to → row * count + column < length p.weights
arc_within p from to row count column is a b r n k =
    rw (r, n, k, is.weight_square) (mul-add-lt from (place_count p) to (place_count p) a b)

-- the weight that stands there
pub arc_read : (p : Problem) (from to row count column read : ℕ) → IsProblem p → from < place_count p → to < place_count p → row ≡ from → count ≡ place_count p → column ≡ to → read ≡ get_or p.weights (row * count + column) read → read ≡ weight_of p from to
arc_read p from to row count column read is a b r n k e =
    rw (← r, ← n, ← k) (get_or_read p.weights _ read (arc_within p from to row count column is a b r n k) e 0)

-- the weights of a problem are small
pub read_small : (weights : List ℕ) (k read : ℕ) → ((j : ℕ) → slice_index weights j ≤ 1000000000) → k < length weights → read ≡ get_or weights k read → read ≤ 1000000000
read_small weights k read small within e = rw (get_or_read weights k read within e 0) (small k)

-- the same of a grid of nodes, which are numbered from 1
pub entry_within : (nodes from to row count column size : ℕ) → 1 ≤ from → from ≤ nodes → 1 ≤ to → to ≤ nodes → row ≡ from → count ≡ nodes → column ≡ to → size ≡ nodes * nodes → (row - 1) * count + (column - 1) < size
entry_within nodes from to row count column size a b d e r n k square =
    rw (r, n, k, square) (mul-add-lt (from - 1) nodes (to - 1) nodes (omega arith) (omega arith))

pub entry_read : (grid : Grid) (from to row count column read : ℕ) → (row - 1) * count + (column - 1) < length grid.entries → row ≡ from → count ≡ grid.nodes → column ≡ to → read ≡ get_or grid.entries ((row - 1) * count + (column - 1)) read → read ≡ entry_at grid from to
entry_read grid from to row count column read within r n k e =
    rw (← r, ← n, ← k) (get_or_read grid.entries _ read within e 0)

-- such a place fits a word, and so does where its row begins
pub entry_row_fits : (row count from nodes : ℕ) → from ≤ nodes → nodes < 65536 → row ≡ from → count ≡ nodes → Fits w64 ((row - 1) * count)
entry_row_fits row count from nodes b few r n = omega (arith, mul-le (row - 1) count 65535 65535 (omega arith) (omega arith))

pub entry_fits : (row count column from nodes to : ℕ) → from ≤ nodes → to ≤ nodes → nodes < 65536 → row ≡ from → count ≡ nodes → column ≡ to → Fits w64 ((row - 1) * count + (column - 1))
entry_fits row count column from nodes to b e few r n k = omega (arith, mul-le (row - 1) count 65535 65535 (omega arith) (omega arith))

pub few_fit : (nodes : ℕ) → nodes ≤ 1200 → nodes < 65536
few_fit nodes few = omega arith

-- the place of a node in a list
pub node_within : (read node count : ℕ) → read ≡ node → 1 ≤ node → node ≤ count → read - 1 < count
node_within read node count e from_one within = omega arith

-- a place in a square of few rows fits a word, and so does where its row begins
pub row_fits : (row count from most : ℕ) → from < most → most ≤ 1200 → row ≡ from → count ≡ most → Fits w64 (row * count)
row_fits row count from most a b r n = omega (arith, mul-le row count 1200 1200 (omega arith) (omega arith))

pub place_fits : (row count column from most to : ℕ) → from < most → most ≤ 1200 → to < most → row ≡ from → count ≡ most → column ≡ to → Fits w64 (row * count + column)
place_fits row count column from most to a b d r n k = omega (arith, mul-le row count 1200 1200 (omega arith) (omega arith))

pub square_fits : (count : ℕ) → count ≤ 1200 → Fits w64 (count * count)
square_fits count few = omega (arith, mul-le count count 1200 1200 few few)
