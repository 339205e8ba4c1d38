-- A square that is filled cell by cell, in a layout's order.
use Rattle.std.proofs.Common.{◌≡◌, ◌≢◌, ℕ, zero, suc, ◌+◌, ◌-◌, ◌*◌, ◌<◌, ◌≤◌, Bool, true, false, cond, Some, List, [], ◌∷◌, length, drop, replicate, filter, slice_get, slice_index, inl, inr, refl, sym, ap, subst, ◌∙◌, add-one, Fits, w32, arith}
use Rattle.std.proofs.lemmas.Bool.{cases_lt, cases_eq, cases_Bool, cond-true, cond-false, ltb-true, leb-true}
use Rattle.std.proofs.lemmas.List.{get_or-replicate, get_or_past, length-replicate, length-drop}
use Rattle.std.proofs.lemmas.Nat.{same_from_place}
use Rattle.std.proofs.lemmas.Option.{slice_get_within, same_Some}
use Rattle.vrp_model.specs.declared.layout.Layout.{Layout}
use Rattle.vrp_model.specs.declared.layout.Layout.TheVariants.{FullMatrix, UpperRow, LowerRow, UpperDiagRow, LowerDiagRow, UpperCol, LowerCol, UpperDiagCol, LowerDiagCol}
use Rattle.vrp_model.specs.Layout.{cells, goes_by_rows, is_full, lists, HasEntries}
use Rattle.vrp_model.specs.Inner.Listing.{cell_on, cells_in_lines, cells_left, weight_in, IsListed, IsWritten, IsFilled}

-- one walk over the square passes all cells of a layout in its order
pub cells_by_lines : (layout : Layout) (n : ℕ) → cells layout n ≡ filter (lists layout) (cells_in_lines layout n 1 n)
cells_by_lines FullMatrix n = refl
cells_by_lines UpperRow n = refl
cells_by_lines LowerRow n = refl
cells_by_lines UpperDiagRow n = refl
cells_by_lines LowerDiagRow n = refl
cells_by_lines UpperCol n = refl
cells_by_lines LowerCol n = refl
cells_by_lines UpperDiagCol n = refl
cells_by_lines LowerDiagCol n = refl

-- what is known of the first element that is left
pub record IsNext {X : Type 0} (xs : List X) (k : ℕ) (x : X) (more : List X) : Type 0 where
  pub within : k < length xs
  pub here : slice_get xs k ≡ Some x
  pub rest : drop (suc k) xs ≡ more

pub IsNext-from_drop : {X : Type 0} (xs : List X) (k : ℕ) (x : X) (rest : List X) → drop k xs ≡ x ∷ rest → IsNext xs k x rest
IsNext-from_drop [] zero x rest e = cc
IsNext-from_drop [] (suc k) x rest e = cc
IsNext-from_drop (y ∷ ys) zero x rest e = record { within = omega arith; here = cc; rest = cc }
IsNext-from_drop (y ∷ ys) (suc k) x rest e =
    let deeper = IsNext-from_drop ys k x rest e in
    record { within = omega arith; here = deeper.here; rest = deeper.rest }

-- the next cell of a line is listed or passed over
pub cells_left-next : (layout : Layout) (n line across : ℕ) → across ≤ n → cells_left layout n line across ≡ cond (lists layout (cell_on layout line across)) (cell_on layout line across ∷ cells_left layout n line (across + 1)) (cells_left layout n line (across + 1))
cells_left-next layout n line across within =
    let here : n + 1 - across ≡ suc (n - across) = omega arith in
    let after : n + 1 - (across + 1) ≡ n - across = omega arith in
    rw (here, after) refl

-- after a line comes the next one
cells_left-line : (layout : Layout) (n line : ℕ) → 1 ≤ line → line ≤ n → cells_left layout n (line - 1) (n + 1) ≡ cells_left layout n line 1
cells_left-line layout n line from_one within =
    let none : n + 1 - (n + 1) ≡ 0 = omega arith in
    let first : line - 1 + 1 ≡ line = omega arith in
    let lines : n - (line - 1) ≡ suc (n - line) = omega arith in
    let all : n + 1 - 1 ≡ n = omega arith in
    rw (none, first, lines, all) refl

cells_left-start : (layout : Layout) (n : ℕ) → cells layout n ≡ cells_left layout n 0 (n + 1)
cells_left-start layout n =
    let none : n + 1 - (n + 1) ≡ 0 = omega arith in
    let all : n - 0 ≡ n = omega arith in
    rw (none, all) (cells_by_lines layout n)

cells_left-end : (layout : Layout) (n : ℕ) → cells_left layout n n (n + 1) ≡ []
cells_left-end layout n =
    let none : n + 1 - (n + 1) ≡ 0 = omega arith in
    let no_line : n - n ≡ 0 = omega arith in
    rw (none, no_line) refl

-- a cell has one place on the lines
pair_turned : (by_rows : Bool) (l a line across : ℕ) → ◌≡◌ {A = ℕ × ℕ} (cond by_rows (l, a) (a, l)) (cond by_rows (line, across) (across, line)) → (l ≡ line) × (a ≡ across)
pair_turned true l a line across e = (ap (λ (p : ℕ × ℕ). p.0) e, ap (λ (p : ℕ × ℕ). p.1) e)
pair_turned false l a line across e = (ap (λ (p : ℕ × ℕ). p.1) e, ap (λ (p : ℕ × ℕ). p.0) e)

same_from_cell_on : (layout : Layout) (l a line across : ℕ) → cell_on layout l a ≡ cell_on layout line across → (l ≡ line) × (a ≡ across)
same_from_cell_on layout l a line across e = pair_turned (goes_by_rows layout) l a line across e

-- a triangle lists no cell beside its mirror image, unless that is the cell itself
mirrored : (layout : Layout) (row column : ℕ) → is_full layout ≡ false → lists layout (row, column) ≡ true → lists layout (column, row) ≡ true → row ≡ column
mirrored FullMatrix row column triangle here there = cc
mirrored UpperRow row column triangle here there = omega (arith, ltb-true row column here, ltb-true column row there)
mirrored LowerRow row column triangle here there = omega (arith, ltb-true column row here, ltb-true row column there)
mirrored UpperDiagRow row column triangle here there = omega (arith, leb-true row column here, leb-true column row there)
mirrored LowerDiagRow row column triangle here there = omega (arith, leb-true column row here, leb-true row column there)
mirrored UpperCol row column triangle here there = omega (arith, ltb-true row column here, ltb-true column row there)
mirrored LowerCol row column triangle here there = omega (arith, ltb-true column row here, ltb-true row column there)
mirrored UpperDiagCol row column triangle here there = omega (arith, leb-true row column here, leb-true column row there)
mirrored LowerDiagCol row column triangle here there = omega (arith, leb-true column row here, leb-true row column there)

-- two cells of a square have two places
places_apart : (n r c row column : ℕ) → 1 ≤ r → 1 ≤ c → c ≤ n → 1 ≤ row → 1 ≤ column → column ≤ n → (r ≡ row → c ≡ column → ⊥) → (r - 1) * n + (c - 1) ≢ (row - 1) * n + (column - 1)
places_apart n r c row column r_one c_one c_in row_one column_one column_in apart e =
    let same = same_from_place (r - 1) (c - 1) (row - 1) (column - 1) n (omega arith) (omega arith) e in
    apart (omega arith) (omega arith)

-- the write at one listed cell leaves each other listed cell alone, and its reverse
kept_there : (layout : Layout) (n row column weight r c : ℕ) (old new : List ℕ) → IsWritten layout n row column weight old new → IsListed layout n row column → IsListed layout n r c → (r ≡ row → c ≡ column → ⊥) → weight_in n new r c ≡ weight_in n old r c
kept_there layout n row column weight r c old new w here other apart =
    w.others _
    (places_apart n r c row column other.row_from_one other.column_from_one other.column_within here.row_from_one here.column_from_one here.column_within apart)
    (λ triangle.
    places_apart n r c column row other.row_from_one other.column_from_one other.column_within here.column_from_one here.row_from_one here.row_within
    (λ p q. let e = mirrored layout row column triangle here.listed (subst (λ (x : ℕ × ℕ). lists layout x ≡ true) (cc) other.listed) in apart (p ∙ sym e) (q ∙ e)))

kept_back : (layout : Layout) (n row column weight r c : ℕ) (old new : List ℕ) → IsWritten layout n row column weight old new → IsListed layout n row column → IsListed layout n r c → is_full layout ≡ false → (r ≡ row → c ≡ column → ⊥) → weight_in n new c r ≡ weight_in n old c r
kept_back layout n row column weight r c old new w here other triangle apart =
    w.others _
    (places_apart n c r row column other.column_from_one other.row_from_one other.row_within here.row_from_one here.column_from_one here.column_within
    (λ p q. let e = mirrored layout row column triangle here.listed (subst (λ (x : ℕ × ℕ). lists layout x ≡ true) (cc) other.listed) in apart (q ∙ sym e) (p ∙ e)))
    (λ _. places_apart n c r column row other.column_from_one other.row_from_one other.row_within here.column_from_one here.row_from_one here.row_within (λ p q. apart q p))

-- ---- the steps of the walk

zeros : (m k : ℕ) → slice_index (replicate m 0) k ≡ 0
zeros m k = elim (cases_lt k m) [
  | inl inside ↦ get_or-replicate m k 0 0 inside
  | inr past ↦ get_or_past (replicate m 0) k 0 (omega (arith, length-replicate {A = ℕ} m 0))
]

pub IsFilled-start : (layout : Layout) (n : ℕ) (entries square : List ℕ) (m : ℕ) → square ≡ replicate m 0 → IsFilled layout n entries square 0 0 (n + 1)
IsFilled-start layout n entries square m e = record {
  left = cells_left-start layout n;
  there = λ k row column below. absurd (omega arith);
  back = λ triangle k row column below. absurd (omega arith);
  listed = λ k row column below. absurd (omega arith);
  earlier = λ k l a below. absurd (omega arith);
  diagonal = λ node from_one within none. rw e (zeros m _);
  small = λ k. rw e (omega (arith, zeros m k));
}

pub IsFilled-line : (layout : Layout) (n : ℕ) (entries square : List ℕ) (next line : ℕ) → 1 ≤ line → line ≤ n → IsFilled layout n entries square next (line - 1) (n + 1) → IsFilled layout n entries square next line 1
IsFilled-line layout n entries square next line from_one within h = record {
  left = h.left ∙ cells_left-line layout n line from_one within;
  there = h.there;
  back = h.back;
  listed = h.listed;
  earlier = λ k l a below e. elim (h.earlier k l a below e) [ inl before ↦ inl (omega arith) | inr before ↦ inl (omega (arith, before.0)) ];
  diagonal = h.diagonal;
  small = h.small;
}

pub IsFilled-skip : (layout : Layout) (n : ℕ) (entries square : List ℕ) (next line across : ℕ) → across ≤ n → lists layout (cell_on layout line across) ≡ false → IsFilled layout n entries square next line across → IsFilled layout n entries square next line (across + 1)
IsFilled-skip layout n entries square next line across within unlisted h = record {
  left = h.left ∙ cells_left-next layout n line across within ∙ cond-false _ _ _ unlisted;
  there = h.there;
  back = h.back;
  listed = h.listed;
  earlier = λ k l a below e. elim (h.earlier k l a below e) [ inl before ↦ inl before | inr before ↦ inr (before.0, omega (arith, before.1)) ];
  diagonal = h.diagonal;
  small = h.small;
}

-- the end of a line
pub on_line : (across n : ℕ) → across < n + 1 → across ≤ n
on_line across n before = omega arith

pub IsFilled-to_end : (layout : Layout) (n : ℕ) (entries square : List ℕ) (next line across : ℕ) → (1 ≤ n + 1 → across ≤ n + 1) → n + 1 ≤ across → IsFilled layout n entries square next line across → IsFilled layout n entries square next line (n + 1)
IsFilled-to_end layout n entries square next line across near far h =
    let end : across ≡ n + 1 = omega (arith, near (omega arith), far) in
    subst (IsFilled layout n entries square next line) end h

-- an entry fits a word of the square
pub entry_fits : (entry : ℕ) → entry ≤ 1000000000 → Fits w32 entry
entry_fits entry small = omega arith

-- the cell that comes next
pub next_cell : (layout : Layout) (n : ℕ) (entries square : List ℕ) (next line across : ℕ) → across ≤ n → lists layout (cell_on layout line across) ≡ true → IsFilled layout n entries square next line across → IsNext (cells layout n) next (cell_on layout line across) (cells_left layout n line (across + 1))
next_cell layout n entries square next line across within listed h =
    IsNext-from_drop (cells layout n) next _ _ (h.left ∙ cells_left-next layout n line across within ∙ cond-true _ _ _ listed)

-- no earlier cell is this one
fresh : (layout : Layout) (n : ℕ) (entries square : List ℕ) (next line across row column k r c : ℕ) → IsFilled layout n entries square next line across → cell_on layout line across ≡ (row, column) → k < next → slice_get (cells layout n) k ≡ Some (r, c) → r ≡ row → c ≡ column → ⊥
fresh layout n entries square next line across row column k r c h cell below e p q =
    let same : slice_get (cells layout n) k ≡ Some (cell_on layout line across) = cc in
    elim (h.earlier k line across below same) [ inl before ↦ absurd (omega arith) | inr before ↦ absurd (omega (arith, before.1)) ]

small_written : (layout : Layout) (n row column weight : ℕ) (old new : List ℕ) → IsWritten layout n row column weight old new → weight ≤ 1000000000 → ((k : ℕ) → slice_index old k ≤ 1000000000) → (k : ℕ) → slice_index new k ≤ 1000000000
small_written layout n row column weight old new w bound small k = elim (cases_eq k ((row - 1) * n + (column - 1))) [
  | inl here ↦ rw (here, w.there) bound
  | inr away ↦ elim (cases_Bool (is_full layout)) [
    | inl full ↦ rw (w.others k away (λ triangle. absurd (cc))) (small k)
    | inr triangle ↦ elim (cases_eq k ((column - 1) * n + (row - 1))) [
      | inl turned ↦ rw (turned, w.back triangle) bound
      | inr elsewhere ↦ rw (w.others k away (λ _. elsewhere)) (small k)
    ]
  ]
]

-- what is known of each earlier cell stays when the next one is written
pub IsFilled-write : (layout : Layout) (n : ℕ) (entries old new : List ℕ) (next line across row column : ℕ) → across ≤ n → cell_on layout line across ≡ (row, column) → IsListed layout n row column → IsWritten layout n row column (slice_index entries next) old new → slice_index entries next ≤ 1000000000 → IsFilled layout n entries old next line across → IsFilled layout n entries new (next + 1) line (across + 1)
IsFilled-write layout n entries old new next line across row column within cell here w bound h =
    let listed : lists layout (cell_on layout line across) ≡ true = rw cell here.listed in
    let now = next_cell layout n entries old next line across within listed h in
    let at_next : slice_get (cells layout n) next ≡ Some (row, column) = now.here ∙ ap (λ (x : ℕ × ℕ). Some x) cell in
    let last : (k r c : ℕ) → next ≤ k → k < next + 1 → slice_get (cells layout n) k ≡ Some (r, c) → (k ≡ next) × (r ≡ row) × (c ≡ column) =
    λ k r c low high e.
    let at : k ≡ next = omega arith in
    let same : slice_get (cells layout n) next ≡ Some (r, c) = rw (← at) e in
    let pair = same_Some (r, c) (row, column) (sym same ∙ at_next) in
    (at, ap (λ (p : ℕ × ℕ). p.0) pair, ap (λ (p : ℕ × ℕ). p.1) pair) in
    record {
      left = rw add-one now.rest;
      there = λ k r c below e. elim (cases_lt k next) [
        | inl p ↦
            kept_there layout n row column _ r c old new w here (h.listed k r c p e) (fresh layout n entries old next line across row column k r c h cell p e)
            ∙ h.there k r c p e
        | inr p ↦ let at = last k r c p below e in rw (at.0, at.1, at.2) w.there
      ];
      back = λ triangle k r c below e. elim (cases_lt k next) [
        | inl p ↦
            kept_back layout n row column _ r c old new w here (h.listed k r c p e) triangle (fresh layout n entries old next line across row column k r c h cell p e)
            ∙ h.back triangle k r c p e
        | inr p ↦ let at = last k r c p below e in rw (at.0, at.1, at.2) (w.back triangle)
      ];
      listed = λ k r c below e. elim (cases_lt k next) [
        | inl p ↦ h.listed k r c p e
        | inr p ↦ let at = last k r c p below e in rw (at.1, at.2) here
      ];
      earlier = λ k l a below e. elim (cases_lt k next) [
        | inl p ↦ elim (h.earlier k l a p e) [ inl before ↦ inl before | inr before ↦ inr (before.0, omega (arith, before.1)) ]
        | inr p ↦
            let at : k ≡ next = omega arith in
            let same : slice_get (cells layout n) next ≡ Some (cell_on layout l a) = rw (← at) e in
            let place = same_from_cell_on layout l a line across (same_Some _ _ (sym same ∙ now.here)) in
            inr (place.0, omega (arith, place.1))
      ];
      diagonal = λ node from_one inside none.
          let apart : node ≡ row → node ≡ column → ⊥ = λ p q. none next (cc) in
          w.others _
          (places_apart n node node row column from_one from_one inside here.row_from_one here.column_from_one here.column_within apart)
          (λ _. places_apart n node node column row from_one from_one inside here.column_from_one here.row_from_one here.row_within (λ p q. apart q p))
          ∙ h.diagonal node from_one inside none;
      small = small_written layout n row column _ old new w bound h.small;
    }

-- the walk is over
pub HasEntries-from_filled : (layout : Layout) (n : ℕ) (entries square : List ℕ) (next : ℕ) → IsFilled layout n entries square next n (n + 1) → HasEntries layout entries (record { nodes = n; entries = square })
HasEntries-from_filled layout n entries square next h =
    let done : length (cells layout n) - next ≡ 0 = sym (length-drop next (cells layout n)) ∙ ap length (h.left ∙ cells_left-end layout n) in
    record {
      there = λ k row column e. let inside = slice_get_within (cells layout n) k (row, column) e in h.there k row column (omega arith) e;
      back = λ triangle k row column e. let inside = slice_get_within (cells layout n) k (row, column) e in h.back triangle k row column (omega arith) e;
      diagonal = h.diagonal;
    }

-- a cell of the square, by its place on the lines
cell_within : (by_rows : Bool) (n line across row column : ℕ) → 1 ≤ line → line ≤ n → 1 ≤ across → across ≤ n → ◌≡◌ {A = ℕ × ℕ} (cond by_rows (line, across) (across, line)) (row, column) → (1 ≤ row) × (row ≤ n) × (1 ≤ column) × (column ≤ n)
cell_within true n line across row column a b c d e =
    let p : line ≡ row = ap (λ (x : ℕ × ℕ). x.0) e in
    let q : across ≡ column = ap (λ (x : ℕ × ℕ). x.1) e in
    (omega arith, omega arith, omega arith, omega arith)
cell_within false n line across row column a b c d e =
    let p : across ≡ row = ap (λ (x : ℕ × ℕ). x.0) e in
    let q : line ≡ column = ap (λ (x : ℕ × ℕ). x.1) e in
    (omega arith, omega arith, omega arith, omega arith)

pub IsListed-on : (layout : Layout) (n line across row column : ℕ) → 1 ≤ line → line ≤ n → 1 ≤ across → across ≤ n → cell_on layout line across ≡ (row, column) → lists layout (row, column) ≡ true → IsListed layout n row column
IsListed-on layout n line across row column a b c d e listed =
    let inside = cell_within (goes_by_rows layout) n line across row column a b c d e in
    record { row_from_one = inside.0; row_within = inside.1; column_from_one = inside.2; column_within = inside.3; listed = listed }

-- there is an entry for the next cell
pub next_within : (layout : Layout) (n : ℕ) (entries square : List ℕ) (next line across row column : ℕ) → across ≤ n → length entries ≡ length (cells layout n) → cell_on layout line across ≡ (row, column) → lists layout (row, column) ≡ true → IsFilled layout n entries square next line across → next < length entries
next_within layout n entries square next line across row column within count cell listed h =
    let here : lists layout (cell_on layout line across) ≡ true = rw cell listed in
    let now = next_cell layout n entries square next line across within here h in
    omega (arith, now.within)
