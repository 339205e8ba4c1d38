-- The weights between the nodes of a complete file are one grid.
use Rattle.std.proofs.Common.{◌≡◌, ℕ, ◌+◌, ◌-◌, ◌<◌, ℤ, pos, false, Some, List, length, get_or, map, ap, sym, ◌∙◌, subst, arith}
use Rattle.std.specs.Prelude.{unsigned_abs, slice_get, slice_index}
use Rattle.std.proofs.lemmas.List.FromFn.{length-map-range_with_len}
use Rattle.std.proofs.lemmas.Option.{slice_get-get_or}
use Rattle.vrp_model.specs.Distance.{IsDistance}
use Rattle.vrp_model.specs.Grid.{Grid, HasDistances, entry_at}
use Rattle.vrp_model.specs.Layout.{HasEntries, cells, is_full, lists}
use Rattle.vrp_model.specs.declared.layout.Layout.{Layout}
use Rattle.vrp_model.specs.declared.metric.Metric.{Metric}
use Rattle.vrp_text.specs.Complete.{Source, Points, Matrix, points_of, row_nodes, row_points}
use Rattle.vrp_text.specs.Inner.PlacedRows.{beside_node}
use Rattle.vrp_text.specs.Meaning.{HasWeights}
use Rattle.vrp_text.proofs.ListedCells.{IsNode, Stands, Listed, Mirrored, Diagonal, stands, listed_occurs, unlisted_absent}

-- two points have one distance
abbrev pub OneDistance : Type 0
OneDistance = (metric : Metric) (a b : ℤ × ℤ) (j k : ℕ) → IsDistance metric a b j → IsDistance metric a b k → j ≡ k

-- two grids over the same nodes with the same weights
pub record AreAlike (nodes : ℕ) (g h : Grid) : Type 0 where
  pub first : g.nodes ≡ nodes
  pub second : h.nodes ≡ nodes
  pub each : (from to : ℕ) → IsNode nodes from → IsNode nodes to → entry_at g from to ≡ entry_at h from to

entry_there : (layout : Layout) (entries : List ℕ) (grid : Grid) (nodes k row column : ℕ) → grid.nodes ≡ nodes → HasEntries layout entries grid → slice_get (cells layout nodes) k ≡ Some (row, column) → entry_at grid row column ≡ slice_index entries k
entry_there layout entries grid nodes k row column count has e =
    has.there k row column (ap (λ n. slice_get (cells layout n) k) count ∙ e)

entry_back : (layout : Layout) (entries : List ℕ) (grid : Grid) (nodes k row column : ℕ) → grid.nodes ≡ nodes → HasEntries layout entries grid → is_full layout ≡ false → slice_get (cells layout nodes) k ≡ Some (row, column) → entry_at grid column row ≡ slice_index entries k
entry_back layout entries grid nodes k row column count has triangle e =
    has.back triangle k row column (ap (λ n. slice_get (cells layout n) k) count ∙ e)

entry_diagonal : (layout : Layout) (entries : List ℕ) (grid : Grid) (nodes row column : ℕ) → grid.nodes ≡ nodes → HasEntries layout entries grid → IsNode nodes row → row ≡ column → lists layout (row, row) ≡ false → entry_at grid row column ≡ 0
entry_diagonal layout entries grid nodes row column count has here same unlisted =
    let zero_at = has.diagonal row here.0 (omega (arith, here.1)) (unlisted_absent layout grid.nodes row row unlisted) in
    ap (λ n. entry_at grid row n) (sym same) ∙ zero_at

entry_at-one_cell : (layout : Layout) (entries : List ℕ) (g h : Grid) (nodes from to : ℕ) → g.nodes ≡ nodes → h.nodes ≡ nodes → HasEntries layout entries g → HasEntries layout entries h → IsNode nodes from → IsNode nodes to → Stands layout from to → entry_at g from to ≡ entry_at h from to
entry_at-one_cell layout entries g h nodes from to p q a b here there (Listed listed) =
    let at = listed_occurs layout nodes from to here there listed in
    entry_there layout entries g nodes at.0 from to p a at.1 ∙ sym (entry_there layout entries h nodes at.0 from to q b at.1)
entry_at-one_cell layout entries g h nodes from to p q a b here there (Mirrored triangle listed) =
    let at = listed_occurs layout nodes to from there here listed in
    entry_back layout entries g nodes at.0 to from p a triangle at.1 ∙ sym (entry_back layout entries h nodes at.0 to from q b triangle at.1)
entry_at-one_cell layout entries g h nodes from to p q a b here there (Diagonal same unlisted) =
    entry_diagonal layout entries g nodes from to p a here same unlisted ∙ sym (entry_diagonal layout entries h nodes from to q b here same unlisted)

AreAlike-matrix : (layout : Layout) (entries : List ℕ) (g h : Grid) (nodes : ℕ) → g.nodes ≡ nodes → h.nodes ≡ nodes → HasEntries layout entries g → HasEntries layout entries h → AreAlike nodes g h
AreAlike-matrix layout entries g h nodes p q a b = record {
  first = p;
  second = q;
  each = λ from to here there. entry_at-one_cell layout entries g h nodes from to p q a b here there (stands layout from to);
}

-- ---- which distance two points have

entry_at-one_point : OneDistance → (metric : Metric) (points : List (ℤ × ℤ)) (g h : Grid) → HasDistances metric points g → HasDistances metric points h → (i j : ℕ) → i < length points → j < length points → entry_at g (i + 1) (j + 1) ≡ entry_at h (i + 1) (j + 1)
entry_at-one_point one metric points g h a b i j low high =
    let none : ℤ × ℤ = (pos 0, pos 0) in
    let from = slice_get-get_or points i none low in
    let to = slice_get-get_or points j none high in
    one metric (get_or points i none) (get_or points j none) _ _ (a.each i j _ _ from to) (b.each i j _ _ from to)

entry_at-one : OneDistance → (metric : Metric) (points : List (ℤ × ℤ)) (g h : Grid) → HasDistances metric points g → HasDistances metric points h → (from to : ℕ) → IsNode (length points) from → IsNode (length points) to → entry_at g from to ≡ entry_at h from to
entry_at-one one metric points g h a b from to here there =
    let same = entry_at-one_point one metric points g h a b (from - 1) (to - 1) (omega arith) (omega arith) in
    let first : from - 1 + 1 ≡ from = omega arith in
    let second : to - 1 + 1 ≡ to = omega arith in
    let From : ℕ → Type 0 = λ n. entry_at g n (to - 1 + 1) ≡ entry_at h n (to - 1 + 1) in
    let To : ℕ → Type 0 = λ n. entry_at g from n ≡ entry_at h from n in
    subst To second (subst From first same)

AreAlike-points : OneDistance → (metric : Metric) (points : List (ℤ × ℤ)) (g h : Grid) (nodes : ℕ) → length points ≡ nodes → HasDistances metric points g → HasDistances metric points h → AreAlike nodes g h
AreAlike-points one metric points g h nodes count a b = record {
  first = a.count ∙ count;
  second = b.count ∙ count;
  each = λ from to here there. entry_at-one one metric points g h a b from to (here.0, omega (arith, here.1)) (there.0, omega (arith, there.1));
}

-- what a file states of the weights leaves one grid
pub AreAlike-of_source : OneDistance → (nodes : ℕ) (source : Source) (g h : Grid) → HasWeights nodes source g → HasWeights nodes source h → AreAlike nodes g h
AreAlike-of_source one nodes (Points metric numbers) g h a b =
    let count : length (points_of nodes numbers) ≡ nodes = length-map-range_with_len (beside_node (pos 0, pos 0) (row_nodes 3 nodes numbers) (row_points nodes numbers)) 1 nodes in
    AreAlike-points one metric (points_of nodes numbers) g h nodes count a b
AreAlike-of_source one nodes (Matrix layout numbers) g h a b = AreAlike-matrix layout (map unsigned_abs numbers) g h nodes a.0 b.0 a.1 b.1
