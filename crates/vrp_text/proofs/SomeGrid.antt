-- What a complete file states of the weights has a grid.
use Rattle.std.proofs.Common.{◌≡◌, ◌≢◌, ℕ, ◌+◌, ◌-◌, ◌*◌, ◌/◌, ◌%◌, ◌<◌, ℤ, pos, false, Some, List, length, get_or, map, inl, inr, refl, ap, sym, ◌∙◌, subst, arith}
use Rattle.std.specs.Prelude.{unsigned_abs, slice_get, slice_index}
use Rattle.std.specs.List.{range_with_len}
use Rattle.std.proofs.lemmas.Bool.{cases_lt}
use Rattle.std.proofs.lemmas.List.FromFn.{get_or-map-range_with_len}
use Rattle.std.proofs.lemmas.Nat.{div-mul-add, mod-mul-add, mul-add-lt}
use Rattle.std.proofs.lemmas.Option.{get_or_from_slice_get, slice_get_within}
use Rattle.vrp_model.specs.Distance.{IsDistance}
use Rattle.vrp_model.specs.Grid.{Grid, HasDistances, entry_at}
use Rattle.vrp_model.specs.Layout.{HasEntries, cells, is_full}
use Rattle.vrp_model.specs.declared.layout.Layout.{Layout}
use Rattle.vrp_model.specs.declared.metric.Metric.{Metric}
use Rattle.vrp_text.specs.Complete.{Source, Points, Matrix, points_of}
use Rattle.vrp_text.specs.Meaning.{HasWeights}
use Rattle.vrp_text.proofs.FilledToTheEnd.{cell_is_listed, listed_once, mirrored_once}
use Rattle.vrp_text.proofs.ListedCells.{IsNode, Stands, Listed, Mirrored, Diagonal, stands, listed_occurs, unlisted_absent}
use Rattle.vrp_text.proofs.SomeDistance.{some_distance}

-- ---- a grid of given weights

-- the weights of all pairs of nodes, which are counted from 0
abbrev grid_of : ℕ → (ℕ → ℕ → ℕ) → Grid
grid_of n weight = record { nodes = n; entries = map (λ place. weight (place / n) (place % n)) (range_with_len 0 (n * n)) }

entry_of : (n : ℕ) (weight : ℕ → ℕ → ℕ) (i j : ℕ) → i < n → j < n → entry_at (grid_of n weight) (i + 1) (j + 1) ≡ weight i j
entry_of n weight i j low high =
    let row : i + 1 - 1 ≡ i = omega arith in
    let column : j + 1 - 1 ≡ j = omega arith in
    let stored = get_or-map-range_with_len (λ place. weight (place / n) (place % n)) 0 (n * n) (i * n + j) (i * n + j) 0 (mul-add-lt i n j n low high) (omega arith) in
    let first : (i * n + j) / n ≡ i = div-mul-add i n j high in
    let second : (i * n + j) % n ≡ j = mod-mul-add i n j high in
    rw (row, column) (stored ∙ (rw (first, second) refl))

-- ---- the distances of points

abbrev point_at : List (ℤ × ℤ) → ℕ → ℤ × ℤ
point_at points i = get_or points i (pos 0, pos 0)

some_distances : (metric : Metric) (points : List (ℤ × ℤ)) → (grid : Grid) × HasDistances metric points grid
some_distances metric points =
    let weight : ℕ → ℕ → ℕ = λ i j. (some_distance metric (point_at points i) (point_at points j)).0 in (
      grid_of (length points) weight,
      record {
        count = refl;
        each = λ i j from to here there.
            let first : point_at points i ≡ from = get_or_from_slice_get points i from (pos 0, pos 0) here in
            let second : point_at points j ≡ to = get_or_from_slice_get points j to (pos 0, pos 0) there in
            let entry = entry_of (length points) weight i j (slice_get_within points i from here) (slice_get_within points j to there) in
            let distance : IsDistance metric (point_at points i) (point_at points j) (weight i j) = (some_distance metric (point_at points i) (point_at points j)).1 in
            let shown : IsDistance metric from to (weight i j) = subst (λ p. IsDistance metric from p (weight i j)) second (subst (λ p. IsDistance metric p (point_at points j) (weight i j)) first distance) in
            subst (IsDistance metric from to) (sym entry) shown;
      },
    )

-- ---- the weights of a matrix

-- what a layout's entries say of the weight of one cell
record IsEntryAt (layout : Layout) (n : ℕ) (entries : List ℕ) (row column weight : ℕ) : Type 0 where
  there : (k : ℕ) → slice_get (cells layout n) k ≡ Some (row, column) → weight ≡ slice_index entries k
  back : is_full layout ≡ false → (k : ℕ) → slice_get (cells layout n) k ≡ Some (column, row) → weight ≡ slice_index entries k
  diagonal : row ≡ column → ((k : ℕ) → slice_get (cells layout n) k ≢ Some (row, row)) → weight ≡ 0

entry_where : (layout : Layout) (n : ℕ) (entries : List ℕ) (row column : ℕ) → IsNode n row → IsNode n column → Stands layout row column → (weight : ℕ) × IsEntryAt layout n entries row column weight
entry_where layout n entries row column here there (Listed listed) =
    let at = listed_occurs layout n row column here there listed in (
      slice_index entries at.0,
      record {
        there = λ k e. ap (slice_index entries) (listed_once layout n at.0 k row column at.1 e);
        back = λ triangle k e. ap (slice_index entries) (mirrored_once layout n at.0 k row column triangle at.1 e);
        diagonal = λ same none. absurd (none at.0 (at.1 ∙ ap (λ c. Some (row, c)) (sym same)));
      },
    )
entry_where layout n entries row column here there (Mirrored triangle listed) =
    let at = listed_occurs layout n column row there here listed in (
      slice_index entries at.0,
      record {
        there = λ k e. ap (slice_index entries) (mirrored_once layout n at.0 k column row triangle at.1 e);
        back = λ _ k e. ap (slice_index entries) (listed_once layout n at.0 k column row at.1 e);
        diagonal = λ same none. absurd (none at.0 (at.1 ∙ ap (λ c. Some (c, row)) (sym same)));
      },
    )
entry_where layout n entries row column here there (Diagonal same unlisted) = (
  0,
  record {
    there = λ k e. absurd (unlisted_absent layout n row row unlisted k (e ∙ ap (λ c. Some (row, c)) (sym same)));
    back = λ _ k e. absurd (unlisted_absent layout n row row unlisted k (e ∙ ap (λ c. Some (c, row)) (sym same)));
    diagonal = λ _ _. refl;
  },
)

-- the weight of two nodes, counted from 0; whatever it is where they are none
some_entry : (layout : Layout) (n : ℕ) (entries : List ℕ) (i j : ℕ) → (weight : ℕ) × (i < n → j < n → IsEntryAt layout n entries (i + 1) (j + 1) weight)
some_entry layout n entries i j = elim (cases_lt i n) [
  | inl low ↦ elim (cases_lt j n) [
    | inl high ↦
        let entry = entry_where layout n entries (i + 1) (j + 1) (omega arith, omega arith) (omega arith, omega arith) (stands layout (i + 1) (j + 1)) in
        (entry.0, λ _ _. entry.1)
    | inr past ↦ (0, λ _ high. absurd (omega arith))
  ]
  | inr past ↦ (0, λ low _. absurd (omega arith))
]

entry_on : (layout : Layout) (n : ℕ) (entries : List ℕ) (row column : ℕ) → IsNode n row → IsNode n column
    → IsEntryAt layout n entries row column (entry_at (grid_of n (λ i j. (some_entry layout n entries i j).0)) row column)
entry_on layout n entries row column here there =
    let weight : ℕ → ℕ → ℕ = λ i j. (some_entry layout n entries i j).0 in
    let i : ℕ = row - 1 in
    let j : ℕ = column - 1 in
    let entry = entry_of n weight i j (omega (arith, here)) (omega (arith, there)) in
    let is : IsEntryAt layout n entries (i + 1) (j + 1) (weight i j) = (some_entry layout n entries i j).1 (omega (arith, here)) (omega (arith, there)) in
    let shown : IsEntryAt layout n entries (i + 1) (j + 1) (entry_at (grid_of n weight) (i + 1) (j + 1)) = subst (IsEntryAt layout n entries (i + 1) (j + 1)) (sym entry) is in
    let first : i + 1 ≡ row = omega (arith, here) in
    let second : j + 1 ≡ column = omega (arith, there) in
    let At : ℕ → ℕ → Type 0 = λ r c. IsEntryAt layout n entries r c (entry_at (grid_of n weight) r c) in
    subst (At row) second (subst (λ r. At r (j + 1)) first shown)

some_matrix : (layout : Layout) (n : ℕ) (entries : List ℕ) → (grid : Grid) × (grid.nodes ≡ n) × HasEntries layout entries grid
some_matrix layout n entries = (
  grid_of n (λ i j. (some_entry layout n entries i j).0),
  refl,
  record {
    there = λ k row column e.
        let cell = cell_is_listed layout n k row column e in
        (entry_on layout n entries row column (cell.row_from_one, cell.row_within) (cell.column_from_one, cell.column_within)).there k e;
    back = λ triangle k row column e.
        let cell = cell_is_listed layout n k row column e in
        (entry_on layout n entries column row (cell.column_from_one, cell.column_within) (cell.row_from_one, cell.row_within)).back triangle k e;
    diagonal = λ node from_one within none. (entry_on layout n entries node node (from_one, within) (from_one, within)).diagonal refl none;
  },
)

-- what a file states of the weights leaves a grid
pub some_weights : (nodes : ℕ) (source : Source) → (grid : Grid) × HasWeights nodes source grid
some_weights nodes (Points metric numbers) = some_distances metric (points_of nodes numbers)
some_weights nodes (Matrix layout numbers) =
    let grid = some_matrix layout nodes (map unsigned_abs numbers) in
    (grid.0, (grid.1, grid.2))
