-- Which cells of a square a layout lists.
use Rattle.std.proofs.Common.{◌≡◌, ◌≢◌, ℕ, zero, suc, ◌-◌, ◌≤◌, ◌<◌, Bool, true, false, Some, List, [], ◌∷◌, ◌++◌, get_or, filter, map, inl, inr, refl, ap, sym, ◌∙◌, subst, arith}
use Rattle.std.specs.Prelude.{nat_le, nat_lt, slice_get, option_map}
use Rattle.std.specs.List.{flat_map, range_with_len}
use Rattle.std.proofs.lemmas.Bool.{cases_Bool, cases_lt}
use Rattle.std.proofs.lemmas.Bool.Decides.{nat_tests}
use Rattle.std.proofs.lemmas.List.Elements.{filter_passes}
use Rattle.std.proofs.lemmas.List.FromFn.{length-range_with_len, get_or-range_with_len}
use Rattle.std.proofs.lemmas.Option.{slice_get-get_or, get_or_from_slice_get, slice_get-map, slice_get_within, same_Some}
use Rattle.vrp_model.proofs.FilledSquare.{cells_by_lines}
use Rattle.vrp_model.specs.Layout.{cells, is_full, lists}
use Rattle.vrp_model.specs.Inner.Listing.{cell_on, cells_in_lines}
use Rattle.vrp_model.specs.declared.layout.Layout.{Layout}
use Rattle.vrp_model.specs.declared.layout.Layout.TheVariants.{FullMatrix, UpperRow, LowerRow, UpperDiagRow, LowerDiagRow, UpperCol, LowerCol, UpperDiagCol, LowerDiagCol}

-- a number from 1 to the count of nodes
abbrev pub IsNode : ℕ → ℕ → Type 0
IsNode nodes node = (1 ≤ node) × (node ≤ nodes)

-- an element stands somewhere in a list
abbrev pub Occurs : {X : Type 0} → List X → X → Type 0
Occurs {X} xs x = (k : ℕ) × (slice_get xs k ≡ Some x)

occurs_left : {X : Type 0} (xs ys : List X) (x : X) (k : ℕ) → slice_get xs k ≡ Some x → Occurs (xs ++ ys) x
occurs_left [] ys x k e = absurd cc
occurs_left (y ∷ xs) ys x zero e = (zero, e)
occurs_left (y ∷ xs) ys x (suc k) e = let rest = occurs_left xs ys x k e in (suc rest.0, rest.1)

occurs_right : {X : Type 0} (xs ys : List X) (x : X) → Occurs ys x → Occurs (xs ++ ys) x
occurs_right [] ys x here = here
occurs_right (y ∷ xs) ys x here = let rest = occurs_right xs ys x here in (suc rest.0, rest.1)

occurs_flat_map : {X Y : Type 0} (f : X → List Y) (xs : List X) (x : X) (y : Y) (k : ℕ) → slice_get xs k ≡ Some x → Occurs (f x) y → Occurs (flat_map f xs) y
occurs_flat_map f [] x y k e here = absurd cc
occurs_flat_map f (z ∷ xs) x y zero e here =
    let same : x ≡ z = same_Some x z (sym e) in
    let there = subst (λ w. Occurs (f w) y) same here in
    occurs_left (f z) (flat_map f xs) y there.0 there.1
occurs_flat_map f (z ∷ xs) x y (suc k) e here = occurs_right (f z) (flat_map f xs) y (occurs_flat_map f xs x y k e here)

occurs_filter : {X : Type 0} (p : X → Bool) (xs : List X) (x : X) (k : ℕ) → slice_get xs k ≡ Some x → p x ≡ true → Occurs (filter p xs) x
occurs_filter p [] x k e kept = absurd cc
occurs_filter p (z ∷ xs) x zero e kept =
    let passes : p z ≡ true = ap p (same_Some z x e) ∙ kept in
    rw passes (zero, e)
occurs_filter p (z ∷ xs) x (suc k) e kept =
    let rest = occurs_filter p xs x k e kept in
    elim (cases_Bool (p z)) [
      | inl here ↦ rw here (suc rest.0, rest.1)
      | inr gone ↦ rw gone rest
    ]

occurs_map : {X Y : Type 0} (f : X → Y) (xs : List X) (x : X) → Occurs xs x → Occurs (map f xs) (f x)
occurs_map f xs x here = (here.0, slice_get-map f xs here.0 ∙ ap (option_map f) here.1)

occurs_range : (n node : ℕ) → IsNode n node → Occurs (range_with_len 1 n) node
occurs_range n node here =
    let count = length-range_with_len 1 n in
    let place : get_or (range_with_len 1 n) (node - 1) 0 ≡ node = get_or-range_with_len 1 n (node - 1) 0 (omega arith) ∙ omega arith in
    (node - 1, slice_get-get_or (range_with_len 1 n) (node - 1) 0 (omega arith) ∙ ap Some place)

occurs_in_lines : (layout : Layout) (n line across : ℕ) → IsNode n line → IsNode n across → Occurs (cells_in_lines layout n 1 n) (cell_on layout line across)
occurs_in_lines layout n line across here there =
    let at_line = occurs_range n line here in
    occurs_flat_map (λ l. map (cell_on layout l) (range_with_len 1 n)) (range_with_len 1 n) line (cell_on layout line across) at_line.0 at_line.1
    (occurs_map (cell_on layout line) (range_with_len 1 n) across (occurs_range n across there))

occurs_on : (layout : Layout) (n row column : ℕ) → IsNode n row → IsNode n column → Occurs (cells_in_lines layout n 1 n) (row, column)
occurs_on FullMatrix n row column here there = occurs_in_lines FullMatrix n row column here there
occurs_on UpperRow n row column here there = occurs_in_lines UpperRow n row column here there
occurs_on LowerRow n row column here there = occurs_in_lines LowerRow n row column here there
occurs_on UpperDiagRow n row column here there = occurs_in_lines UpperDiagRow n row column here there
occurs_on LowerDiagRow n row column here there = occurs_in_lines LowerDiagRow n row column here there
occurs_on UpperCol n row column here there = occurs_in_lines UpperCol n column row there here
occurs_on LowerCol n row column here there = occurs_in_lines LowerCol n column row there here
occurs_on UpperDiagCol n row column here there = occurs_in_lines UpperDiagCol n column row there here
occurs_on LowerDiagCol n row column here there = occurs_in_lines LowerDiagCol n column row there here

-- a cell that a layout lists
pub listed_occurs : (layout : Layout) (n row column : ℕ) → IsNode n row → IsNode n column → lists layout (row, column) ≡ true → Occurs (cells layout n) (row, column)
listed_occurs layout n row column here there listed =
    let at = occurs_on layout n row column here there in
    let kept = occurs_filter (lists layout) (cells_in_lines layout n 1 n) (row, column) at.0 at.1 listed in
    subst (λ xs. Occurs xs (row, column)) (sym (cells_by_lines layout n)) kept

-- a cell that a layout doesn't list
pub unlisted_absent : (layout : Layout) (n row column : ℕ) → lists layout (row, column) ≡ false → (k : ℕ) → slice_get (cells layout n) k ≢ Some (row, column)
unlisted_absent layout n row column unlisted k e =
    let kept : slice_get (filter (lists layout) (cells_in_lines layout n 1 n)) k ≡ Some (row, column) = sym (ap (λ xs. slice_get xs k) (cells_by_lines layout n)) ∙ e in
    let within = slice_get_within (filter (lists layout) (cells_in_lines layout n 1 n)) k (row, column) kept in
    let passes = filter_passes (lists layout) (cells_in_lines layout n 1 n) k (row, column) within in
    let same = get_or_from_slice_get (filter (lists layout) (cells_in_lines layout n 1 n)) k (row, column) (row, column) kept in
    let listed : lists layout (row, column) ≡ true = sym (ap (lists layout) same) ∙ passes in
    let never : true ≡ false = sym listed ∙ unlisted in
    cc

-- a cell is listed, or its mirror image is, or it lies on the diagonal
pub data Stands (layout : Layout) (row column : ℕ) : Type 0 where
  Listed : lists layout (row, column) ≡ true → Stands layout row column
  Mirrored : is_full layout ≡ false → lists layout (column, row) ≡ true → Stands layout row column
  Diagonal : row ≡ column → lists layout (row, row) ≡ false → Stands layout row column

lt_is : (a b : ℕ) → a < b → nat_lt a b ≡ true
lt_is a b h = grind (arith, nat_tests)

lt_not : (a : ℕ) → nat_lt a a ≡ false
lt_not a = grind (arith, nat_tests)

le_is : (a b : ℕ) → a ≤ b → nat_le a b ≡ true
le_is a b h = grind (arith, nat_tests)

stands_above : (layout : Layout) (row column : ℕ) → is_full layout ≡ false → ((r c : ℕ) → lists layout (r, c) ≡ nat_lt r c) → Stands layout row column
stands_above layout row column triangle test =
    elim (cases_lt row column) [
      | inl above ↦ Listed (test row column ∙ lt_is row column above)
      | inr rest ↦ elim (cases_lt column row) [
        | inl below ↦ Mirrored triangle (test column row ∙ lt_is column row below)
        | inr on ↦ Diagonal (omega arith) (test row row ∙ lt_not row)
      ]
    ]

stands_below : (layout : Layout) (row column : ℕ) → is_full layout ≡ false → ((r c : ℕ) → lists layout (r, c) ≡ nat_lt c r) → Stands layout row column
stands_below layout row column triangle test =
    elim (cases_lt column row) [
      | inl below ↦ Listed (test row column ∙ lt_is column row below)
      | inr rest ↦ elim (cases_lt row column) [
        | inl above ↦ Mirrored triangle (test column row ∙ lt_is row column above)
        | inr on ↦ Diagonal (omega arith) (test row row ∙ lt_not row)
      ]
    ]

stands_from_above : (layout : Layout) (row column : ℕ) → is_full layout ≡ false → ((r c : ℕ) → lists layout (r, c) ≡ nat_le r c) → Stands layout row column
stands_from_above layout row column triangle test =
    elim (cases_lt row column) [
      | inl above ↦ Listed (test row column ∙ le_is row column (omega arith))
      | inr rest ↦ Mirrored triangle (test column row ∙ le_is column row rest)
    ]

stands_from_below : (layout : Layout) (row column : ℕ) → is_full layout ≡ false → ((r c : ℕ) → lists layout (r, c) ≡ nat_le c r) → Stands layout row column
stands_from_below layout row column triangle test =
    elim (cases_lt column row) [
      | inl below ↦ Listed (test row column ∙ le_is column row (omega arith))
      | inr rest ↦ Mirrored triangle (test column row ∙ le_is row column rest)
    ]

-- each cell of the square stands in one of the three ways
pub stands : (layout : Layout) (row column : ℕ) → Stands layout row column
stands FullMatrix row column = Listed refl
stands UpperRow row column = stands_above UpperRow row column refl (λ r c. refl)
stands LowerRow row column = stands_below LowerRow row column refl (λ r c. refl)
stands UpperDiagRow row column = stands_from_above UpperDiagRow row column refl (λ r c. refl)
stands LowerDiagRow row column = stands_from_below LowerDiagRow row column refl (λ r c. refl)
stands UpperCol row column = stands_above UpperCol row column refl (λ r c. refl)
stands LowerCol row column = stands_below LowerCol row column refl (λ r c. refl)
stands UpperDiagCol row column = stands_from_above UpperDiagCol row column refl (λ r c. refl)
stands LowerDiagCol row column = stands_from_below LowerDiagCol row column refl (λ r c. refl)
