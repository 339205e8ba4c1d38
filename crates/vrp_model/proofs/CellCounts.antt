-- How many cells a layout lists.
use Rattle.std.proofs.Common.{◌≡◌, ℕ, zero, suc, ◌+◌, ◌-◌, ◌*◌, ◌/◌, ◌<◌, ◌≤◌, Bool, true, not, min, ltb, leb, List, [], ◌∷◌, length, ap, ◌∙◌, map, filter, inl, inr, refl, length-append, arith}
use Rattle.std.specs.List.{flat_map, range_with_len}
use Rattle.std.proofs.lemmas.Bool.{cases_lt, lt-ltb, le-ltb}
use Rattle.std.proofs.lemmas.Bool.Decides.{nat_tests}
use Rattle.std.proofs.lemmas.List.Elements.{filter-append}
use Rattle.std.proofs.lemmas.List.Filters.{length-filter_both}
use Rattle.std.proofs.lemmas.List.FromFn.{length-map-range_with_len}
use Rattle.vrp_model.specs.declared.layout.Layout.TheVariants.{FullMatrix, UpperRow, LowerRow, UpperDiagRow, LowerDiagRow, UpperCol, LowerCol, UpperDiagCol, LowerDiagCol}
use Rattle.vrp_model.specs.Layout.{cells}

-- the numbers of a range that lie below a bound
count_below : {X : Type 0} (p : X → Bool) (g : ℕ → X) (t s m : ℕ) → ((a : ℕ) → p (g a) ≡ ltb a t) → length (filter p (map g (range_with_len s m))) ≡ min m (t - s)
count_below p g t s zero each = omega arith
count_below p g t s (suc m) each =
    let rest = count_below p g t (s + 1) m each in
    elim (cases_lt s t) [
      | inl below ↦ rw (each s, lt-ltb s t below) (omega arith)
      | inr above ↦ rw (each s, le-ltb s t above) (omega arith)
    ]

-- lines that rise by one cell each
count_lines : {X : Type 0} (p : X → Bool) (f : ℕ → List X) (less s m : ℕ) → ((line : ℕ) → s ≤ line → line < s + m → length (filter p (f line)) + less ≡ line) → 2 * length (filter p (flat_map f (range_with_len s m))) + 2 * (less * m) + m ≡ m * (2 * s + m)
count_lines p f less s zero each = omega arith
count_lines p f less s (suc m) each =
    let rest = count_lines p f less (s + 1) m (λ line low high. each line (omega arith) (omega arith)) in
    let here = each s (omega arith) (omega arith) in
    rw (filter-append, length-append) (omega arith)

-- all cells
count_all : {X : Type 0} (f : ℕ → List X) (n s m : ℕ) → ((line : ℕ) → length (f line) ≡ n) → length (flat_map f (range_with_len s m)) ≡ m * n
count_all f n s zero each = omega arith
count_all f n s (suc m) each =
    let rest = count_all f n (s + 1) m each in
    rw length-append (omega (arith, each s))

abbrev walk : {X : Type 0} → (ℕ → ℕ → X) → ℕ → List X
walk g n = flat_map (λ line. map (g line) (range_with_len 1 n)) (range_with_len 1 n)

count_walk : {X : Type 0} (g : ℕ → ℕ → X) (n : ℕ) → length (walk g n) ≡ n * n
count_walk g n = count_all (λ line. map (g line) (range_with_len 1 n)) n 1 n (λ line. length-map-range_with_len (g line) 1 n)

-- the cells before the diagonal of each line
count_before : {X : Type 0} (p : X → Bool) (g : ℕ → ℕ → X) (n : ℕ) → ((line across : ℕ) → p (g line across) ≡ ltb across line) → 2 * length (filter p (walk g n)) + n ≡ n * n
count_before p g n each =
    let lines = count_lines p (λ line. map (g line) (range_with_len 1 n)) 1 1 n (λ line low high. omega (arith, count_below p (g line) line 1 n (each line))) in
    omega arith

-- the same with the diagonal
count_to : {X : Type 0} (p : X → Bool) (g : ℕ → ℕ → X) (n : ℕ) → ((line across : ℕ) → p (g line across) ≡ ltb across (line + 1)) → 2 * length (filter p (walk g n)) ≡ n * n + n
count_to p g n each =
    let lines = count_lines p (λ line. map (g line) (range_with_len 1 n)) 0 1 n (λ line low high. omega (arith, count_below p (g line) (line + 1) 1 n (each line))) in
    omega arith

-- and the cells after it
count_after : {X : Type 0} (p q : X → Bool) (g : ℕ → ℕ → X) (n : ℕ) → ((x : X) → q x ≡ not (p x)) → ((line across : ℕ) → p (g line across) ≡ ltb across (line + 1)) → 2 * length (filter q (walk g n)) + n ≡ n * n
count_after p q g n other each =
    omega (arith, count_to p g n each, length-filter_both p q other (walk g n), count_walk g n)

count_from : {X : Type 0} (p q : X → Bool) (g : ℕ → ℕ → X) (n : ℕ) → ((x : X) → q x ≡ not (p x)) → ((line across : ℕ) → p (g line across) ≡ ltb across line) → 2 * length (filter q (walk g n)) ≡ n * n + n
count_from p q g n other each =
    omega (arith, count_before p g n each, length-filter_both p q other (walk g n), count_walk g n)

leb_as_ltb : (a b : ℕ) → leb a b ≡ ltb a (b + 1)
leb_as_ltb a b = grind (arith, nat_tests)

leb_turned : (a b : ℕ) → leb a b ≡ not (ltb b a)
leb_turned a b = grind (arith, nat_tests)

ltb_turned : (a b : ℕ) → ltb a b ≡ not (leb b a)
ltb_turned a b = grind (arith, nat_tests)

filter_all : {X : Type 0} (xs : List X) → filter (λ _. true) xs ≡ xs
filter_all [] = refl
filter_all (x ∷ xs) = ap (λ rest. x ∷ rest) (filter_all xs)

pub length_cells_full : (n : ℕ) → length (cells FullMatrix n) ≡ n * n
length_cells_full n = ap length (filter_all (walk (λ row column. (row, column)) n)) ∙ count_walk (λ row column. (row, column)) n

pub length_cells_upper_row : (n : ℕ) → 2 * length (cells UpperRow n) + n ≡ n * n
length_cells_upper_row n =
    count_after (λ cell. leb cell.1 cell.0) (λ cell. ltb cell.0 cell.1) (λ row column. (row, column)) n (λ cell. ltb_turned cell.0 cell.1) (λ line across. leb_as_ltb across line)

pub length_cells_lower_row : (n : ℕ) → 2 * length (cells LowerRow n) + n ≡ n * n
length_cells_lower_row n = count_before (λ cell. ltb cell.1 cell.0) (λ row column. (row, column)) n (λ line across. refl)

pub length_cells_upper_diag_row : (n : ℕ) → 2 * length (cells UpperDiagRow n) ≡ n * n + n
length_cells_upper_diag_row n =
    count_from (λ cell. ltb cell.1 cell.0) (λ cell. leb cell.0 cell.1) (λ row column. (row, column)) n (λ cell. leb_turned cell.0 cell.1) (λ line across. refl)

pub length_cells_lower_diag_row : (n : ℕ) → 2 * length (cells LowerDiagRow n) ≡ n * n + n
length_cells_lower_diag_row n = count_to (λ cell. leb cell.1 cell.0) (λ row column. (row, column)) n (λ line across. leb_as_ltb across line)

pub length_cells_upper_col : (n : ℕ) → 2 * length (cells UpperCol n) + n ≡ n * n
length_cells_upper_col n = count_before (λ cell. ltb cell.0 cell.1) (λ column row. (row, column)) n (λ line across. refl)

pub length_cells_lower_col : (n : ℕ) → 2 * length (cells LowerCol n) + n ≡ n * n
length_cells_lower_col n =
    count_after (λ cell. leb cell.0 cell.1) (λ cell. ltb cell.1 cell.0) (λ column row. (row, column)) n (λ cell. ltb_turned cell.1 cell.0) (λ line across. leb_as_ltb across line)

pub length_cells_upper_diag_col : (n : ℕ) → 2 * length (cells UpperDiagCol n) ≡ n * n + n
length_cells_upper_diag_col n = count_to (λ cell. leb cell.0 cell.1) (λ column row. (row, column)) n (λ line across. leb_as_ltb across line)

pub length_cells_lower_diag_col : (n : ℕ) → 2 * length (cells LowerDiagCol n) ≡ n * n + n
length_cells_lower_diag_col n =
    count_from (λ cell. ltb cell.0 cell.1) (λ cell. leb cell.1 cell.0) (λ column row. (row, column)) n (λ cell. leb_turned cell.1 cell.0) (λ line across. refl)

-- ---- the halves of a square

half_of : (twice count : ℕ) → twice ≡ 2 * count → twice / 2 ≡ count
half_of twice count e = omega arith

pub half_without_diagonal : (n count : ℕ) → 2 * count + n ≡ n * n → n * (n - 1) / 2 ≡ count
half_without_diagonal zero count e = half_of (0 * (0 - 1)) count (omega arith)
half_without_diagonal (suc k) count e =
    let less : suc k - 1 ≡ k = omega arith in
    rw less (half_of (suc k * k) count (omega arith))

pub half_with_diagonal : (n count : ℕ) → 2 * count ≡ n * n + n → n * (n + 1) / 2 ≡ count
half_with_diagonal n count e = half_of (n * (n + 1)) count (omega arith)
