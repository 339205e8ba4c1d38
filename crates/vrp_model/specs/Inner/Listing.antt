-- The cells of a layout as one walk over the square, line by line, that skips the cells not listed.
use Rattle.std.specs.Prelude.{◌≡◌, ◌≢◌, ℕ, ◌+◌, ◌-◌, ◌*◌, ◌≤◌, ◌<◌, ◌⊎◌, true, false, if◌then◌else◌, Some, List, ◌++◌, map, drop, filter, slice_get, slice_index}
use Rattle.std.specs.List.{flat_map, range_with_len}
use Rattle.vrp_model.specs.Layout.{cells, goes_by_rows, is_full, lists}
use Rattle.vrp_model.specs.declared.layout.Layout.{Layout}
use Rattle.vrp_model.specs.declared.limits.TheConstants.{MAX_WEIGHT}

-- the cell at a position of a line
abbrev pub cell_on : Layout → ℕ → ℕ → ℕ × ℕ
cell_on layout line across = if goes_by_rows layout then (line, across) else (across, line)

-- the listed cells of this many lines, from one on
abbrev pub cells_in_lines : Layout → ℕ → ℕ → ℕ → List (ℕ × ℕ)
cells_in_lines layout n line count = flat_map (λ l. map (cell_on layout l) (range_with_len 1 n)) (range_with_len line count)

-- the cells still to come: the rest of a line, and the lines after it
abbrev pub cells_left : Layout → ℕ → ℕ → ℕ → List (ℕ × ℕ)
cells_left layout n line across =
    filter (lists layout) (map (cell_on layout line) (range_with_len across (n + 1 - across)) ++ cells_in_lines layout n (line + 1) (n - line))

-- the weight at a cell of a square in row order
abbrev pub weight_in : ℕ → List ℕ → ℕ → ℕ → ℕ
weight_in n square row column = slice_index square ((row - 1) * n + (column - 1))

-- a cell of the square that the layout lists
pub record IsListed (layout : Layout) (n row column : ℕ) : Type 0 where
  pub row_from_one : 1 ≤ row
  pub row_within : row ≤ n
  pub column_from_one : 1 ≤ column
  pub column_within : column ≤ n
  pub listed : lists layout (row, column) ≡ true

-- a weight was written at a cell and, unless the matrix is full, at its mirror image, and nowhere else
pub record IsWritten (layout : Layout) (n row column weight : ℕ) (old new : List ℕ) : Type 0 where
  pub there : weight_in n new row column ≡ weight
  pub back : is_full layout ≡ false → weight_in n new column row ≡ weight
  pub others : (place : ℕ) → place ≢ (row - 1) * n + (column - 1) → (is_full layout ≡ false → place ≢ (column - 1) * n + (row - 1)) → slice_index new place ≡ slice_index old place

-- the square while it is filled: the cells before a position of a line have their entries, and this many entries are read
pub record IsFilled (layout : Layout) (n : ℕ) (entries square : List ℕ) (next line across : ℕ) : Type 0 where
  pub left : drop next (cells layout n) ≡ cells_left layout n line across
  pub there : (k row column : ℕ) → k < next → slice_get (cells layout n) k ≡ Some (row, column) → weight_in n square row column ≡ slice_index entries k
  pub back : is_full layout ≡ false → (k row column : ℕ) → k < next → slice_get (cells layout n) k ≡ Some (row, column) → weight_in n square column row ≡ slice_index entries k
  pub listed : (k row column : ℕ) → k < next → slice_get (cells layout n) k ≡ Some (row, column) → IsListed layout n row column
  pub earlier : (k l a : ℕ) → k < next → slice_get (cells layout n) k ≡ Some (cell_on layout l a) → (l < line) ⊎ ((l ≡ line) × (a < across))
  pub diagonal : (node : ℕ) → 1 ≤ node → node ≤ n → ((k : ℕ) → slice_get (cells layout n) k ≢ Some (node, node)) → weight_in n square node node ≡ 0
  pub small : (k : ℕ) → slice_index square k ≤ MAX_WEIGHT
