-- The walk that enters a layout's entries, cell by cell, comes to its end, and it meets each cell once.
use Rattle.std.proofs.Common.{◌≡◌, ℕ, zero, suc, ◌+◌, ◌-◌, ◌*◌, ◌<◌, ◌≤◌, true, false, Some, List, [], ◌∷◌, length, replicate, set, slice_get, slice_index, inl, inr, refl, sym, ap, subst, ◌∙◌, arith}
use Rattle.std.proofs.lemmas.Bool.{cases_eq, cases_Bool}
use Rattle.std.proofs.lemmas.List.{get_or-set_same, get_or-set_other, length-drop, length-replicate, length-set}
use Rattle.std.proofs.lemmas.Nat.{mul-add-lt}
use Rattle.std.proofs.lemmas.Option.{slice_get_within}
use Rattle.vrp_model.proofs.FilledSquare.{HasEntries-from_filled, IsFilled-line, IsFilled-skip, IsFilled-start, IsFilled-write, IsListed-on}
use Rattle.vrp_model.specs.Layout.{HasEntries, cells, is_full, lists}
use Rattle.vrp_model.specs.Inner.Listing.{IsFilled, IsListed, IsWritten, cell_on, cells_left}
use Rattle.vrp_model.specs.declared.layout.Layout.{Layout}
use Rattle.vrp_model.specs.declared.limits.TheConstants.{MAX_WEIGHT}

-- ---- one write

record Written (layout : Layout) (n row column weight : ℕ) (old : List ℕ) : Type 0 where
  square : List ℕ
  room : length square ≡ n * n
  is : IsWritten layout n row column weight old square

cell_inside : (n row column : ℕ) → 1 ≤ row → row ≤ n → 1 ≤ column → column ≤ n → (row - 1) * n + (column - 1) < n * n
cell_inside n row column a b c d = mul-add-lt (row - 1) n (column - 1) n (omega arith) (omega arith)

write_there : (layout : Layout) (n row column weight : ℕ) (old : List ℕ) → is_full layout ≡ true → IsListed layout n row column → length old ≡ n * n → Written layout n row column weight old
write_there layout n row column weight old full here room =
    let there : ℕ = (row - 1) * n + (column - 1) in
    let inside = cell_inside n row column here.row_from_one here.row_within here.column_from_one here.column_within in
    record {
      square = set old there weight;
      room = length-set old there weight ∙ room;
      is = record {
        there = get_or-set_same old there weight 0 (omega (arith, room, inside));
        back = λ triangle. absurd cc;
        others = λ k away _. get_or-set_other old there k weight 0 away;
      };
    }

write_both_directions : (layout : Layout) (n row column weight : ℕ) (old : List ℕ) → is_full layout ≡ false → IsListed layout n row column → length old ≡ n * n → Written layout n row column weight old
write_both_directions layout n row column weight old triangle here room =
    let there : ℕ = (row - 1) * n + (column - 1) in
    let back : ℕ = (column - 1) * n + (row - 1) in
    let inside = cell_inside n row column here.row_from_one here.row_within here.column_from_one here.column_within in
    let inside_back = cell_inside n column row here.column_from_one here.column_within here.row_from_one here.row_within in
    let once : List ℕ = set old there weight in
    let count : length once ≡ n * n = length-set old there weight ∙ room in
    let written_back : slice_index (set once back weight) back ≡ weight = get_or-set_same once back weight 0 (omega (arith, count, inside_back)) in
    record {
      square = set once back weight;
      room = length-set once back weight ∙ count;
      is = record {
        there = elim (cases_eq there back) [
          | inl same ↦ ap (slice_index (set once back weight)) same ∙ written_back
          | inr apart ↦ get_or-set_other once back there weight 0 apart ∙ get_or-set_same old there weight 0 (omega (arith, room, inside))
        ];
        back = λ _. written_back;
        others = λ k away away_back. get_or-set_other once back k weight 0 (away_back triangle) ∙ get_or-set_other old there k weight 0 away;
      };
    }

write_cell : (layout : Layout) (n row column weight : ℕ) (old : List ℕ) → IsListed layout n row column → length old ≡ n * n → Written layout n row column weight old
write_cell layout n row column weight old here room = elim (cases_Bool (is_full layout)) [
  | inl full ↦ write_there layout n row column weight old full here room
  | inr triangle ↦ write_both_directions layout n row column weight old triangle here room
]

-- ---- the whole walk

-- the square when the walk has come to a place of a line
record Walked (layout : Layout) (n : ℕ) (entries : List ℕ) (line across : ℕ) : Type 0 where
  square : List ℕ
  next : ℕ
  room : length square ≡ n * n
  filled : IsFilled layout n entries square next line across

abbrev AreSmall : List ℕ → Type 0
AreSmall entries = (k : ℕ) → slice_index entries k ≤ MAX_WEIGHT

pair_is : (cell : ℕ × ℕ) → cell ≡ (cell.0, cell.1)
pair_is (row, column) = refl

past_cell : (layout : Layout) (n : ℕ) (entries : List ℕ) (line across : ℕ) → AreSmall entries → 1 ≤ line → line ≤ n → 1 ≤ across → across ≤ n → Walked layout n entries line across → Walked layout n entries line (across + 1)
past_cell layout n entries line across small line_one line_in across_one across_in so_far =
    let cell : ℕ × ℕ = cell_on layout line across in
    elim (cases_Bool (lists layout cell)) [
      | inl listed ↦
          let same : cell ≡ (cell.0, cell.1) = pair_is cell in
          let kept : lists layout (cell.0, cell.1) ≡ true = sym (ap (lists layout) same) ∙ listed in
          let here = IsListed-on layout n line across cell.0 cell.1 line_one line_in across_one across_in same kept in
          let new = write_cell layout n cell.0 cell.1 (slice_index entries so_far.next) so_far.square here so_far.room in
          record {
            square = new.square;
            next = so_far.next + 1;
            room = new.room;
            filled = IsFilled-write layout n entries so_far.square new.square so_far.next line across cell.0 cell.1 across_in same here new.is (small so_far.next) so_far.filled;
          }
      | inr unlisted ↦ record {
        square = so_far.square;
        next = so_far.next;
        room = so_far.room;
        filled = IsFilled-skip layout n entries so_far.square so_far.next line across across_in unlisted so_far.filled;
      }
    ]

past_line : (layout : Layout) (n : ℕ) (entries : List ℕ) (line cells_left across : ℕ) → AreSmall entries → 1 ≤ line → line ≤ n → 1 ≤ across → across + cells_left ≡ n + 1 → Walked layout n entries line across → Walked layout n entries line (n + 1)
past_line layout n entries line zero across small line_one line_in across_one count so_far =
    let end : across ≡ n + 1 = omega arith in
    subst (Walked layout n entries line) end so_far
past_line layout n entries line (suc more) across small line_one line_in across_one count so_far =
    past_line layout n entries line more (across + 1) small line_one line_in (omega arith) (omega arith)
    (past_cell layout n entries line across small line_one line_in across_one (omega arith) so_far)

new_line : (layout : Layout) (n : ℕ) (entries : List ℕ) (line : ℕ) → line < n → Walked layout n entries line (n + 1) → Walked layout n entries (line + 1) 1
new_line layout n entries line inside so_far =
    let before : line ≡ line + 1 - 1 = omega arith in
    record {
      square = so_far.square;
      next = so_far.next;
      room = so_far.room;
      filled = IsFilled-line layout n entries so_far.square so_far.next (line + 1) (omega arith) (omega arith) (subst (λ l. IsFilled layout n entries so_far.square so_far.next l (n + 1)) before so_far.filled);
    }

past_lines : (layout : Layout) (n : ℕ) (entries : List ℕ) (lines_left line : ℕ) → AreSmall entries → line + lines_left ≡ n → Walked layout n entries line (n + 1) → Walked layout n entries n (n + 1)
past_lines layout n entries zero line small count so_far =
    let end : line ≡ n = omega arith in
    subst (λ l. Walked layout n entries l (n + 1)) end so_far
past_lines layout n entries (suc more) line small count so_far =
    past_lines layout n entries more (line + 1) small (omega arith)
    (past_line layout n entries (line + 1) n 1 small (omega arith) (omega arith) (omega arith) (omega arith) (new_line layout n entries line (omega arith) so_far))

walked : (layout : Layout) (n : ℕ) (entries : List ℕ) → AreSmall entries → Walked layout n entries n (n + 1)
walked layout n entries small =
    past_lines layout n entries n 0 small (omega arith) (record {
      square = replicate (n * n) 0;
      next = 0;
      room = length-replicate (n * n) 0;
      filled = IsFilled-start layout n entries (replicate (n * n) 0) (n * n) refl;
    })

-- ---- each cell stands in the square, and once

none_left : (layout : Layout) (n : ℕ) → cells_left layout n n (n + 1) ≡ []
none_left layout n =
    let none : n + 1 - (n + 1) ≡ 0 = omega arith in
    let no_line : n - n ≡ 0 = omega arith in
    rw (none, no_line) refl

no_entries : AreSmall []
no_entries k = omega arith

-- a cell of a layout is listed by it, and lies in the square
pub cell_is_listed : (layout : Layout) (n k row column : ℕ) → slice_get (cells layout n) k ≡ Some (row, column) → IsListed layout n row column
cell_is_listed layout n k row column e =
    let end = walked layout n [] no_entries in
    let done : length (cells layout n) - end.next ≡ 0 = sym (length-drop end.next (cells layout n)) ∙ ap length (end.filled.left ∙ none_left layout n) in
    let inside = slice_get_within (cells layout n) k (row, column) e in
    end.filled.listed k row column (omega arith) e

-- an entry of 1 at one place, and of 0 before it
abbrev mark : ℕ → List ℕ
mark zero = 1 ∷ []
mark (suc k) = 0 ∷ mark k

mark_here : (k : ℕ) → slice_index (mark k) k ≡ 1
mark_here zero = refl
mark_here (suc k) = mark_here k

mark_only : (k j : ℕ) → slice_index (mark k) j ≡ 1 → k ≡ j
mark_only zero zero e = refl
mark_only zero (suc j) e = absurd cc
mark_only (suc k) zero e = absurd cc
mark_only (suc k) (suc j) e = ap suc (mark_only k j e)

mark_small : (k : ℕ) → AreSmall (mark k)
mark_small zero zero = omega arith
mark_small zero (suc j) = omega arith
mark_small (suc k) zero = omega arith
mark_small (suc k) (suc j) = mark_small k j

marked : (layout : Layout) (n k : ℕ) → (square : List ℕ) × HasEntries layout (mark k) (record { nodes = n; entries = square })
marked layout n k =
    let end = walked layout n (mark k) (mark_small k) in
    (end.square, HasEntries-from_filled layout n (mark k) end.square end.next end.filled)

-- a layout lists no cell twice
pub listed_once : (layout : Layout) (n i j row column : ℕ) → slice_get (cells layout n) i ≡ Some (row, column) → slice_get (cells layout n) j ≡ Some (row, column) → i ≡ j
listed_once layout n i j row column here there =
    let square = marked layout n i in
    mark_only i j (sym (square.1.there j row column there) ∙ square.1.there i row column here ∙ mark_here i)

-- nor, but for a full matrix, beside its mirror image
pub mirrored_once : (layout : Layout) (n i j row column : ℕ) → is_full layout ≡ false → slice_get (cells layout n) i ≡ Some (row, column) → slice_get (cells layout n) j ≡ Some (column, row) → i ≡ j
mirrored_once layout n i j row column triangle here there =
    let square = marked layout n i in
    mark_only i j (sym (square.1.back triangle j column row there) ∙ square.1.there i row column here ∙ mark_here i)
