-- Sets of rows, bit by bit, and the prices of their rows.
use Rattle.std.proofs.Common.{◌≡◌, ℕ, suc, ◌+◌, ◌-◌, ◌/◌, ◌%◌, ◌<◌, ◌≤◌, List, [], ◌∷◌, refl, ◌∙◌, ap, arith, bit_and, min}
use Rattle.std.specs.Int.{bit_at}
use Rattle.std.specs.Int.RustNames.{bit_xor}
use Rattle.std.proofs.Math.Nat.{mul-le-mul_right, zero-mul}
use Rattle.std.proofs.lemmas.Nat.Bits.{bit_at-suc, bit_at-lt, bit_at-zero, bit_at_and, bit_at_lowest, bit_at_xor, same_from_bits}
use Rattle.vrp_duals.specs.Folding.{due_at, members_at, memories_at, rows_at, weigh}
use Rattle.vrp_labels.specs.Graph.{GraphOf}
use Rattle.vrp_labels.specs.Label.{excess, rows_without}

-- sets are weighed bit by bit
pub weigh_bits : (prices : List ℕ) (a b c d : ℕ) → ((i : ℕ) → bit_at a i + bit_at b i ≤ bit_at c i + bit_at d i) → weigh prices a + weigh prices b ≤ weigh prices c + weigh prices d
weigh_bits [] a b c d each = omega arith
weigh_bits (p ∷ ps) a b c d each =
    let rest = weigh_bits ps (a / 2) (b / 2) (c / 2) (d / 2) (λ i. next (bit_at-suc a i) (bit_at-suc b i) (bit_at-suc c i) (bit_at-suc d i) (each (suc i))) in
    let here : a % 2 + b % 2 ≤ c % 2 + d % 2 = next (bit_at_lowest a) (bit_at_lowest b) (bit_at_lowest c) (bit_at_lowest d) (each 0) in
    let paid = mul-le-mul_right p here in
    omega (arith, rest, paid)
  where
    next : {x y z w x' y' z' w' : ℕ} → x ≡ x' → y ≡ y' → z ≡ z' → w ≡ w' → x + y ≤ z + w → x' + y' ≤ z' + w'
    next e f g h le = omega arith

pub weigh_none : (prices : List ℕ) → weigh prices 0 ≡ 0
weigh_none [] = refl
weigh_none (p ∷ ps) = omega (arith, weigh_none ps, zero-mul p)

less_bit : (x y : ℕ) → x < 2 → y < 2 → (x + min x y) % 2 ≡ x - y
less_bit x y a b = omega arith

-- the rows of one set that aren't in the other
pub bit_at_without : (a b i : ℕ) → bit_at (rows_without a b) i ≡ bit_at a i - bit_at b i
bit_at_without a b i = bit_at_xor a (bit_and a b) i ∙ (ap (λ n. (bit_at a i + n) % 2) (bit_at_and a b i) ∙ less_bit (bit_at a i) (bit_at b i) (bit_at-lt a i) (bit_at-lt b i))

-- no row is left where the other set has them all, and only there
pub all_in_other : (a b : ℕ) → rows_without a b ≡ 0 → (i : ℕ) → bit_at a i ≤ bit_at b i
all_in_other a b none i = low (bit_at_without a b i) (ap (λ n. bit_at n i) none) (bit_at-zero i)
  where
    low : {x y z w : ℕ} → w ≡ x - y → w ≡ z → z ≡ 0 → x ≤ y
    low e f g = omega arith

pub none_left : (a b : ℕ) → ((i : ℕ) → bit_at a i ≤ bit_at b i) → rows_without a b ≡ 0
none_left a b each = same_from_bits (rows_without a b) 0 (λ i. low (bit_at_without a b i) (each i) (bit_at-zero i))
  where
    low : {x y z w : ℕ} → w ≡ x - y → x ≤ y → z ≡ 0 → w ≡ z
    low e f g = omega arith

-- the rows after one more customer
pub bit_at_rows : (m t r i : ℕ) → bit_at (bit_xor (bit_and r m) t) i ≡ (min (bit_at r i) (bit_at m i) + bit_at t i) % 2
bit_at_rows m t r i = bit_at_xor (bit_and r m) t i ∙ ap (λ n. (n + bit_at t i) % 2) (bit_at_and r m i)

pub from_bits : {x y z w x' y' z' w' : ℕ} → x ≡ x' → y ≡ y' → z ≡ z' → w ≡ w' → x' + y' ≤ z' + w' → x + y ≤ z + w
from_bits e f g h le = omega arith

pub excess_trans : (g : GraphOf) (a b c : ℕ) → excess g a c ≤ excess g a b + excess g b c
excess_trans g a b c =
    let le = weigh_bits g.folded.row_prices (rows_without a c) 0 (rows_without a b) (rows_without b c)
    (λ i. from_bits (bit_at_without a c i) (bit_at-zero i) (bit_at_without a b i) (bit_at_without b c i) (each (bit_at a i) (bit_at b i) (bit_at c i))) in
    omega (arith, le, weigh_none g.folded.row_prices)
  where
    each : (x y z : ℕ) → (x - z) + 0 ≤ (x - y) + (y - z)
    each x y z = omega arith

-- no row is in excess where there is none
pub excess_none : (g : GraphOf) (b : ℕ) → excess g 0 b ≡ 0
excess_none g b = ap (weigh g.folded.row_prices) (none_left 0 b (λ i. omega (arith, bit_at-zero i))) ∙ weigh_none g.folded.row_prices

-- no row is in excess of the same rows
pub excess_same : (g : GraphOf) (a : ℕ) → excess g a a ≡ 0
excess_same g a =
    let le = weigh_bits g.folded.row_prices (rows_without a a) 0 0 0
    (λ i. from_bits (bit_at_without a a i) (bit_at-zero i) (bit_at-zero i) (bit_at-zero i) (each (bit_at a i))) in
    omega (arith, le, weigh_none g.folded.row_prices)
  where
    each : (x : ℕ) → (x - x) + 0 ≤ 0 + 0
    each x = omega arith

-- one more customer keeps the order: what one pays more there, it has in excess before
pub excess_extended : (g : GraphOf) (j a b : ℕ) → due_at g.folded j a + excess g (rows_at g.folded j a) (rows_at g.folded j b) ≤ excess g a b + due_at g.folded j b
excess_extended g j a b =
    let m = memories_at g.folded j in
    let t = members_at g.folded j in
    weigh_bits g.folded.row_prices (bit_and a t) (rows_without (rows_at g.folded j a) (rows_at g.folded j b)) (rows_without a b) (bit_and b t)
    (λ i. from_bits (bit_at_and a t i) (bit_at_without (rows_at g.folded j a) (rows_at g.folded j b) i ∙ both (bit_at_rows m t a i) (bit_at_rows m t b i)) (bit_at_without a b i) (bit_at_and b t i)
    (each (bit_at a i) (bit_at b i) (bit_at m i) (bit_at t i) (bit_at-lt a i) (bit_at-lt b i) (bit_at-lt m i) (bit_at-lt t i)))
  where
    both : {x y x' y' : ℕ} → x ≡ x' → y ≡ y' → x - y ≡ x' - y'
    both e f = omega arith

    each : (x y m t : ℕ) → x < 2 → y < 2 → m < 2 → t < 2 → min x t + ((min x m + t) % 2 - (min y m + t) % 2) ≤ (x - y) + min y t
    each x y m t p q r s = omega arith

-- where two sets meet, the one pays no more than the other and its excess
pub meeting_excess : (g : GraphOf) (a b v : ℕ) → weigh g.folded.row_prices (bit_and v a) ≤ excess g a b + weigh g.folded.row_prices (bit_and v b)
meeting_excess g a b v =
    let le = weigh_bits g.folded.row_prices (bit_and v a) 0 (rows_without a b) (bit_and v b)
    (λ i. from_bits (bit_at_and v a i) (bit_at-zero i) (bit_at_without a b i) (bit_at_and v b i) (each (bit_at a i) (bit_at b i) (bit_at v i))) in
    omega (arith, le, weigh_none g.folded.row_prices)
  where
    each : (x y v : ℕ) → min v x + 0 ≤ (x - y) + min v y
    each x y v = omega arith

-- it makes no difference which of two halves a customer between them belongs to
pub meeting_moved : (g : GraphOf) (j x y : ℕ) → due_at g.folded j y + weigh g.folded.row_prices (bit_and x (rows_at g.folded j y)) ≡ due_at g.folded j x + weigh g.folded.row_prices (bit_and (rows_at g.folded j x) y)
meeting_moved g j x y =
    let m = memories_at g.folded j in
    let t = members_at g.folded j in
    let one = weigh_bits g.folded.row_prices (bit_and y t) (bit_and x (rows_at g.folded j y)) (bit_and x t) (bit_and (rows_at g.folded j x) y)
    (λ i. from_bits (bit_at_and y t i) (bit_at_and x (rows_at g.folded j y) i ∙ ap (λ n. min (bit_at x i) n) (bit_at_rows m t y i)) (bit_at_and x t i) (bit_at_and (rows_at g.folded j x) y i ∙ ap (λ n. min n (bit_at y i)) (bit_at_rows m t x i))
    (each (bit_at x i) (bit_at y i) (bit_at m i) (bit_at t i) (bit_at-lt x i) (bit_at-lt y i) (bit_at-lt m i) (bit_at-lt t i))) in
    let other = weigh_bits g.folded.row_prices (bit_and x t) (bit_and (rows_at g.folded j x) y) (bit_and y t) (bit_and x (rows_at g.folded j y))
    (λ i. from_bits (bit_at_and x t i) (bit_at_and (rows_at g.folded j x) y i ∙ ap (λ n. min n (bit_at y i)) (bit_at_rows m t x i)) (bit_at_and y t i) (bit_at_and x (rows_at g.folded j y) i ∙ ap (λ n. min (bit_at x i) n) (bit_at_rows m t y i))
    (back (bit_at x i) (bit_at y i) (bit_at m i) (bit_at t i) (bit_at-lt x i) (bit_at-lt y i) (bit_at-lt m i) (bit_at-lt t i))) in
    omega (arith, one, other)
  where
    each : (x y m t : ℕ) → x < 2 → y < 2 → m < 2 → t < 2 → min y t + min x ((min y m + t) % 2) ≤ min x t + min ((min x m + t) % 2) y
    each x y m t p q r s = omega arith

    back : (x y m t : ℕ) → x < 2 → y < 2 → m < 2 → t < 2 → min x t + min ((min x m + t) % 2) y ≤ min y t + min x ((min y m + t) % 2)
    back x y m t p q r s = omega arith
