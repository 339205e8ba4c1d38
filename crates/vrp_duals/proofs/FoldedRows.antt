-- Sets of rows, bit by bit, are the rows one by one.
use Rattle.std.proofs.Common.{◌≡◌, ℕ, zero, suc, ◌+◌, ◌*◌, ◌/◌, ◌%◌, ◌<◌, List, [], ◌∷◌, ◌++◌, get_or, refl, sym, ◌∙◌, ap, arith, bit_and, map, min, reverse, append_assoc, append-nil}
use Rattle.std.specs.Int.{bit_at}
use Rattle.std.specs.Int.RustNames.{bit_xor}
use Rattle.std.specs.List.{All, sum_by}
use Rattle.std.proofs.Math.Nat.{add-mul, zero-mul, one-mul}
use Rattle.std.proofs.lemmas.Grind.{reverse_onto}
use Rattle.std.proofs.lemmas.List.Elements.{All-head, All-tail}
use Rattle.std.proofs.lemmas.List.Sums.{sum_by-cons}
use Rattle.std.proofs.lemmas.Nat.{and_shr}
use Rattle.std.proofs.lemmas.Nat.Bits.{bit_at-lt, bit_at-suc, bit_at_and, bit_at_lowest, bit_at_xor, same_from_bits}
use Rattle.vrp_model.specs.Problem.{Problem, place_count}
use Rattle.vrp_duals.specs.Duals.{DualsOf, row_charge, state_of, turns_of}
use Rattle.vrp_duals.specs.Folding.{FoldedOf, IsFolded, bits_of, due_at, memories_at, members_at, rows_of, weigh}
use Rattle.vrp_duals.specs.declared.rows.SubsetRow.{SubsetRow}
use Rattle.vrp_duals.proofs.ListSums.{sum_by_same, sum_by_sum, sum_by_zeros}

-- ---- the lowest bit, and the others

min_times : (x y : ℕ) → x < 2 → y < 2 → min x y ≡ x * y
min_times zero y a b = omega (arith, zero-mul y)
min_times (suc zero) y a b = omega (arith, one-mul y)
min_times (suc (suc x)) y a b = absurd (omega arith)

pub and_lowest : (a b : ℕ) → bit_and a b % 2 ≡ a % 2 * (b % 2)
and_lowest a b = omega (arith, bit_at_lowest (bit_and a b), bit_at_and a b 0, ap (λ x. min x (bit_at b 0)) (bit_at_lowest a), ap (λ y. min (a % 2) y) (bit_at_lowest b), min_times (a % 2) (b % 2) (omega arith) (omega arith))

pub and_half : (a b : ℕ) → bit_and a b / 2 ≡ bit_and (a / 2) (b / 2)
and_half a b = and_shr a b 1

xor_lowest : (a b : ℕ) → bit_xor a b % 2 ≡ (a % 2 + b % 2) % 2
xor_lowest a b = sym (bit_at_lowest (bit_xor a b)) ∙ (bit_at_xor a b 0 ∙ (ap (λ n. (n + bit_at b 0) % 2) (bit_at_lowest a) ∙ ap (λ n. (a % 2 + n) % 2) (bit_at_lowest b)))

xor_half : (a b : ℕ) → bit_xor a b / 2 ≡ bit_xor (a / 2) (b / 2)
xor_half a b = same_from_bits (bit_xor a b / 2) (bit_xor (a / 2) (b / 2)) (λ i.
    sym (bit_at-suc (bit_xor a b) i) ∙ (bit_at_xor a b (suc i) ∙ (ap (λ n. (n + bit_at b (suc i)) % 2) (bit_at-suc a i) ∙ (ap (λ n. (bit_at (a / 2) i + n) % 2) (bit_at-suc b i) ∙ sym (bit_at_xor (a / 2) (b / 2) i)))))

low : (x n : ℕ) → x < 2 → (x + 2 * n) % 2 ≡ x
low x n lt = omega arith

high : (x n : ℕ) → x < 2 → (x + 2 * n) / 2 ≡ n
high x n lt = omega arith

from_halves : (n x m : ℕ) → n % 2 ≡ x → n / 2 ≡ m → n ≡ x + 2 * m
from_halves n x m e f = omega arith

-- ---- a bit for each row

and_bits : {X : Type 0} (f h : X → ℕ) → ((x : X) → f x < 2) → ((x : X) → h x < 2) → (xs : List X) → bit_and (bits_of f xs) (bits_of h xs) ≡ bits_of (λ x. min (f x) (h x)) xs
and_bits f h fs hs [] = refl
and_bits f h fs hs (x ∷ xs) =
    let a = f x + 2 * bits_of f xs in
    let b = h x + 2 * bits_of h xs in
    from_halves (bit_and a b) (min (f x) (h x)) (bits_of (λ x. min (f x) (h x)) xs)
    (and_lowest a b ∙ (ap (λ n. n * (b % 2)) (low (f x) (bits_of f xs) (fs x)) ∙ (ap (λ n. f x * n) (low (h x) (bits_of h xs) (hs x)) ∙ sym (min_times (f x) (h x) (fs x) (hs x)))))
    (and_half a b ∙ (ap (λ n. bit_and n (b / 2)) (high (f x) (bits_of f xs) (fs x)) ∙ (ap (λ n. bit_and (bits_of f xs) n) (high (h x) (bits_of h xs) (hs x)) ∙ and_bits f h fs hs xs)))

xor_bits : {X : Type 0} (f h : X → ℕ) → ((x : X) → f x < 2) → ((x : X) → h x < 2) → (xs : List X) → bit_xor (bits_of f xs) (bits_of h xs) ≡ bits_of (λ x. (f x + h x) % 2) xs
xor_bits f h fs hs [] = refl
xor_bits f h fs hs (x ∷ xs) =
    let a = f x + 2 * bits_of f xs in
    let b = h x + 2 * bits_of h xs in
    from_halves (bit_xor a b) ((f x + h x) % 2) (bits_of (λ x. (f x + h x) % 2) xs)
    (xor_lowest a b ∙ (ap (λ n. (n + b % 2) % 2) (low (f x) (bits_of f xs) (fs x)) ∙ ap (λ n. (f x + n) % 2) (low (h x) (bits_of h xs) (hs x))))
    (xor_half a b ∙ (ap (λ n. bit_xor n (b / 2)) (high (f x) (bits_of f xs) (fs x)) ∙ (ap (λ n. bit_xor (bits_of f xs) n) (high (h x) (bits_of h xs) (hs x)) ∙ xor_bits f h fs hs xs)))

min_lt : (x y : ℕ) → x < 2 → min x y < 2
min_lt x y lt = omega arith

mod_lt : (n : ℕ) → n % 2 < 2
mod_lt n = omega arith

pub state_lt : (row : SubsetRow) (stops : List ℕ) → state_of row stops < 2
state_lt row [] = omega arith
state_lt row (stop ∷ stops) = mod_lt (min (state_of row stops) (bit_at row.memory stop) + bit_at row.customers stop)

bits_zero : {X : Type 0} (xs : List X) → bits_of (λ (x : X). 0) xs ≡ 0
bits_zero [] = refl
bits_zero (x ∷ xs) = omega (arith, bits_zero xs)

-- the folded rows are in the states of the rows
rows_are : (p : Problem) (d : DualsOf) (f : FoldedOf) → IsFolded p d f → (stops : List ℕ) → All (λ stop. stop < place_count p) stops → rows_of f stops ≡ bits_of (λ row. state_of row stops) d.rows
rows_are p d f is [] inside = sym (bits_zero d.rows)
rows_are p d f is (j ∷ stops) inside =
    let lt = All-head (λ stop. stop < place_count p) j stops inside in
    let before = rows_are p d f is stops (All-tail (λ stop. stop < place_count p) j stops inside) in
    ap (λ n. bit_xor (bit_and n (memories_at f j)) (members_at f j)) before
    ∙ (ap (λ n. bit_xor (bit_and (bits_of (λ row. state_of row stops) d.rows) n) (members_at f j)) (is.memories j lt)
    ∙ (ap (λ n. bit_xor n (members_at f j)) (and_bits (λ row. state_of row stops) (λ (row : SubsetRow). bit_at row.memory j) (λ row. state_lt row stops) (λ row. bit_at-lt row.memory j) d.rows)
    ∙ (ap (λ n. bit_xor (bits_of (λ (row : SubsetRow). min (state_of row stops) (bit_at row.memory j)) d.rows) n) (is.members j lt)
    ∙ xor_bits (λ (row : SubsetRow). min (state_of row stops) (bit_at row.memory j)) (λ (row : SubsetRow). bit_at row.customers j) (λ row. min_lt (state_of row stops) (bit_at row.memory j) (state_lt row stops)) (λ row. bit_at-lt row.customers j) d.rows)))

-- ---- prices of rows

pub weigh_none : (prices : List ℕ) → weigh prices 0 ≡ 0
weigh_none [] = refl
weigh_none (p ∷ ps) = omega (arith, weigh_none ps, zero-mul p)

-- sets of rows are weighed row by row
weigh_rows : (prices : List ℕ) (f : SubsetRow → ℕ) → ((row : SubsetRow) → f row < 2) → (rows : List SubsetRow) → ((k : ℕ) → get_or prices k 0 ≡ get_or (map (λ (row : SubsetRow). row.price) rows) k 0) → weigh prices (bits_of f rows) ≡ sum_by (λ row. f row * row.price) rows
weigh_rows [] f fs [] same = refl
weigh_rows [] f fs (row ∷ rows) same =
    let free : row.price ≡ 0 = sym (same 0) in
    omega (arith, sum_by-cons (λ row. f row * row.price) row rows, weigh_rows [] f fs rows (λ k. same (suc k)), ap (λ n. f row * n) free)
weigh_rows (p ∷ prices) f fs [] same = weigh_none (p ∷ prices)
weigh_rows (p ∷ prices) f fs (row ∷ rows) same =
    let rest = weigh_rows prices f fs rows (λ k. same (suc k)) in
    ap (λ n. n * p + weigh prices ((f row + 2 * bits_of f rows) / 2)) (low (f row) (bits_of f rows) (fs row))
    ∙ (ap (λ n. f row * p + weigh prices n) (high (f row) (bits_of f rows) (fs row))
    ∙ (ap (λ n. f row * n + weigh prices (bits_of f rows)) (same 0)
    ∙ (ap (λ n. f row * row.price + n) rest ∙ sym (sum_by-cons (λ row. f row * row.price) row rows))))

-- what is due at a stop
due_is : (p : Problem) (d : DualsOf) (f : FoldedOf) → IsFolded p d f → (j : ℕ) (stops : List ℕ) → All (λ stop. stop < place_count p) (j ∷ stops) → due_at f j (rows_of f stops) ≡ sum_by (λ row. min (state_of row stops) (bit_at row.customers j) * row.price) d.rows
due_is p d f is j stops inside =
    let lt = All-head (λ stop. stop < place_count p) j stops inside in
    let before = rows_are p d f is stops (All-tail (λ stop. stop < place_count p) j stops inside) in
    ap (λ n. weigh f.row_prices (bit_and n (members_at f j))) before
    ∙ (ap (λ n. weigh f.row_prices (bit_and (bits_of (λ row. state_of row stops) d.rows) n)) (is.members j lt)
    ∙ (ap (weigh f.row_prices) (and_bits (λ row. state_of row stops) (λ (row : SubsetRow). bit_at row.customers j) (λ row. state_lt row stops) (λ row. bit_at-lt row.customers j) d.rows)
    ∙ weigh_rows f.row_prices (λ (row : SubsetRow). min (state_of row stops) (bit_at row.customers j)) (λ row. min_lt (state_of row stops) (bit_at row.customers j) (state_lt row stops)) d.rows is.row_prices))

-- what one stop more is charged
pub charge_more : (p : Problem) (d : DualsOf) (f : FoldedOf) → IsFolded p d f → (j : ℕ) (stops : List ℕ) → All (λ stop. stop < place_count p) (j ∷ stops) → row_charge turns_of d.rows (j ∷ stops) ≡ row_charge turns_of d.rows stops + due_at f j (rows_of f stops)
charge_more p d f is j stops inside =
    sum_by_same (λ row. turns_of row (j ∷ stops) * row.price) (λ row. turns_of row stops * row.price + min (state_of row stops) (bit_at row.customers j) * row.price) d.rows (λ row. add-mul (turns_of row stops) (min (state_of row stops) (bit_at row.customers j)) row.price)
    ∙ (sum_by_sum (λ row. turns_of row stops * row.price) (λ row. min (state_of row stops) (bit_at row.customers j) * row.price) d.rows
    ∙ ap (λ n. row_charge turns_of d.rows stops + n) (sym (due_is p d f is j stops inside)))

pub charge_none : (rows : List SubsetRow) → row_charge turns_of rows [] ≡ 0
charge_none rows = sum_by_same (λ row. turns_of row [] * row.price) (λ row. 0) rows (λ row. zero-mul row.price) ∙ sum_by_zeros rows

-- ---- a route read from its other end

-- the turns of a route whose two parts are each read from its own end
turns_joined : (row : SubsetRow) (begun stops : List ℕ) → turns_of row (reverse begun ++ stops) ≡ turns_of row begun + turns_of row stops + min (state_of row begun) (state_of row stops)
turns_joined row [] stops = omega arith
turns_joined row (j ∷ begun) stops =
    let moved = either (state_of row begun) (state_of row stops) (bit_at row.memory j) (bit_at row.customers j) (state_lt row begun) (state_lt row stops) (bit_at-lt row.memory j) (bit_at-lt row.customers j) in
    let same : reverse (j ∷ begun) ++ stops ≡ reverse begun ++ (j ∷ stops) = ap (λ (xs : List ℕ). xs ++ stops) (reverse_onto begun j []) ∙ append_assoc (reverse begun) (j ∷ []) stops in
    omega (arith, ap (turns_of row) same, turns_joined row begun (j ∷ stops), moved)
  where
    either : (x y m t : ℕ) → x < 2 → y < 2 → m < 2 → t < 2 → min y t + min x ((min y m + t) % 2) ≡ min x t + min ((min x m + t) % 2) y
    either x y m t p q r s = omega arith

pub turned_row : (row : SubsetRow) (route : List ℕ) → turns_of row (reverse route) ≡ turns_of row route
turned_row row route = none (turns_of row route) (state_of row route) (sym (ap (turns_of row) (append-nil (reverse route))) ∙ turns_joined row route [])
  where
    none : {n : ℕ} (t s : ℕ) → n ≡ t + 0 + min s 0 → n ≡ t
    none t s e = omega arith
