-- The layouts of a matrix of weights in a file (TSPLIB 95, section 1.1, EDGE_WEIGHT_FORMAT): which cells of the square a
-- file lists, and in which order. Rows and columns are numbered from 1; a cell is a row and a column.
use Rattle.std.specs.Prelude.{◌≡◌, ◌≢◌, ℕ, ◌≤◌, Bool, true, false, if◌then◌else◌, nat_lt, nat_le, Some, List, map, filter, slice_get, slice_index}
use Rattle.std.specs.List.{flat_map, range_with_len}
use Rattle.vrp_model.specs.Grid.{Grid, entry_at}
use Rattle.vrp_model.specs.declared.layout.Layout.{Layout}
use Rattle.vrp_model.specs.declared.layout.Layout.TheVariants.{FullMatrix, UpperRow, LowerRow, UpperDiagRow, LowerDiagRow, UpperCol, LowerCol, UpperDiagCol, LowerDiagCol}

-- all cells of a square, by rising row and within it by rising column
abbrev pub cells_by_rows : ℕ → List (ℕ × ℕ)
cells_by_rows n = flat_map (λ row. map (λ column. (row, column)) (range_with_len 1 n)) (range_with_len 1 n)

-- all cells of a square, by rising column and within it by rising row
abbrev pub cells_by_columns : ℕ → List (ℕ × ℕ)
cells_by_columns n = flat_map (λ column. map (λ row. (row, column)) (range_with_len 1 n)) (range_with_len 1 n)

-- whether a layout goes by rows; otherwise it goes by columns
abbrev pub goes_by_rows : Layout → Bool
goes_by_rows FullMatrix = true
goes_by_rows UpperRow = true
goes_by_rows LowerRow = true
goes_by_rows UpperDiagRow = true
goes_by_rows LowerDiagRow = true
goes_by_rows UpperCol = false
goes_by_rows LowerCol = false
goes_by_rows UpperDiagCol = false
goes_by_rows LowerDiagCol = false

-- whether a layout lists a cell: the cells on one side of the diagonal, with or without the diagonal
abbrev pub lists : Layout → ℕ × ℕ → Bool
lists FullMatrix cell = true
lists UpperRow cell = nat_lt cell.0 cell.1
lists LowerRow cell = nat_lt cell.1 cell.0
lists UpperDiagRow cell = nat_le cell.0 cell.1
lists LowerDiagRow cell = nat_le cell.1 cell.0
lists UpperCol cell = nat_lt cell.0 cell.1
lists LowerCol cell = nat_lt cell.1 cell.0
lists UpperDiagCol cell = nat_le cell.0 cell.1
lists LowerDiagCol cell = nat_le cell.1 cell.0

-- the cells that a layout lists, in its order
abbrev pub cells : Layout → ℕ → List (ℕ × ℕ)
cells layout n = filter (lists layout) (if goes_by_rows layout then cells_by_rows n else cells_by_columns n)

-- the only layout in which a weight holds in one direction
abbrev pub is_full : Layout → Bool
is_full FullMatrix = true
is_full layout = false

-- The k-th entry is the weight of the k-th cell and, unless the matrix is full, of the reverse arc. An unlisted cell on the
-- diagonal has the weight 0.
pub record HasEntries (layout : Layout) (entries : List ℕ) (grid : Grid) : Type 0 where
  pub there : (k row column : ℕ) → slice_get (cells layout grid.nodes) k ≡ Some (row, column) → entry_at grid row column ≡ slice_index entries k
  pub back : is_full layout ≡ false → (k row column : ℕ) → slice_get (cells layout grid.nodes) k ≡ Some (row, column) → entry_at grid column row ≡ slice_index entries k
  pub diagonal : (node : ℕ) → 1 ≤ node → node ≤ grid.nodes → ((k : ℕ) → slice_get (cells layout grid.nodes) k ≢ Some (node, node)) → entry_at grid node node ≡ 0
