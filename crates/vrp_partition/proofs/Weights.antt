-- Sums over a choice of what each customer of a set adds.
use Rattle.std.proofs.Common.{◌≡◌, ℕ, zero, suc, ◌+◌, ◌*◌, ◌/◌, ◌%◌, ◌^◌, ◌<◌, List, [], ◌∷◌, refl, sym, ◌∙◌, ap, arith, bit_and, count_ones, min, ℤ, pos, negsuc, ◌+ℤ◌, ◌*ℤ◌}
use Rattle.std.specs.Int.{bit_at}
use Rattle.std.specs.List.{sum_by}
use Rattle.std.specs.Int.Bits.{and_zero_r}
use Rattle.std.specs.Int.Count.{ones_step, ones-ones}
use Rattle.std.proofs.Math.Nat.{add-mul, zero-mul, one-mul, pow-suc}
use Rattle.std.proofs.Math.IntN.{pos-*ℤ-pos, pos-*ℤ-negsuc, zero-*ℤ}
use Rattle.std.proofs.lemmas.Int.{ints}
use Rattle.std.proofs.lemmas.List.Sums.{sum_by-cons}
use Rattle.std.proofs.lemmas.Nat.{and_shr}
use Rattle.std.proofs.lemmas.Nat.Bits.{bit_at-suc, bit_at_and, bit_at_lowest}
use Rattle.vrp_partition.specs.Prices.{total, dual_sum, load_of}

pub sum_by_same : {X : Type 0} (f h : X → ℕ) (xs : List X) → ((x : X) → f x ≡ h x) → sum_by f xs ≡ sum_by h xs
sum_by_same f h [] e = refl
sum_by_same f h (x ∷ xs) e = omega (arith, sum_by-cons f x xs, sum_by-cons h x xs, sum_by_same f h xs e, e x)

pub sum_by_sum : {X : Type 0} (f h : X → ℕ) (xs : List X) → sum_by (λ x. f x + h x) xs ≡ sum_by f xs + sum_by h xs
sum_by_sum f h [] = refl
sum_by_sum f h (x ∷ xs) = omega (arith, sum_by-cons f x xs, sum_by-cons h x xs, sum_by-cons (λ y. f y + h y) x xs, sum_by_sum f h xs)

pub sum_by_times : {X : Type 0} (f : X → ℕ) (w : ℕ) (xs : List X) → sum_by (λ x. f x * w) xs ≡ sum_by f xs * w
sum_by_times f w [] = sym (zero-mul w)
sum_by_times f w (x ∷ xs) = rw (sum_by-cons f x xs, add-mul (f x) (sum_by f xs) w) (sum_by-cons (λ y. f y * w) x xs ∙ ap (λ n. f x * w + n) (sum_by_times f w xs))

pub sum_by_zeros : {X : Type 0} (xs : List X) → sum_by (λ x. 0) xs ≡ 0
sum_by_zeros [] = refl
sum_by_zeros (x ∷ xs) = sum_by-cons (λ y. 0) x xs ∙ omega (arith, sum_by_zeros xs)

pub total_same : {X : Type 0} (f h : X → ℤ) (xs : List X) → ((x : X) → f x ≡ h x) → total f xs ≡ total h xs
total_same f h [] e = refl
total_same f h (x ∷ xs) e = let rest = total_same f h xs e in let here = e x in omega (arith, ints)

pub total_sum : {X : Type 0} (f h : X → ℤ) (xs : List X) → total (λ x. f x +ℤ h x) xs ≡ total f xs +ℤ total h xs
total_sum f h [] = refl
total_sum f h (x ∷ xs) = let rest = total_sum f h xs in omega (arith, ints)

times-add : (a b : ℕ) (y : ℤ) → pos (a + b) *ℤ y ≡ pos a *ℤ y +ℤ pos b *ℤ y
times-add a b (pos n) = simp pos-*ℤ-pos (omega (arith, ints, add-mul a b n))
times-add a b (negsuc n) = simp pos-*ℤ-negsuc (omega (arith, ints, add-mul a b (suc n)))

pub total_times : {X : Type 0} (f : X → ℕ) (y : ℤ) (xs : List X) → total (λ x. pos (f x) *ℤ y) xs ≡ pos (sum_by f xs) *ℤ y
total_times f y [] = sym (zero-*ℤ y)
total_times f y (x ∷ xs) = rw (sum_by-cons f x xs, times-add (f x) (sum_by f xs) y) (ap (λ z. pos (f x) *ℤ y +ℤ z) (total_times f y xs))

halves : {X : Type 0} (set : X → ℕ) (xs : List X) (customers : ℕ) → ((i : ℕ) → sum_by (λ x. bit_at (set x) i) xs ≡ bit_at customers i) → (i : ℕ) → sum_by (λ x. bit_at (set x / 2) i) xs ≡ bit_at (customers / 2) i
halves set xs customers once i = sum_by_same (λ x. bit_at (set x / 2) i) (λ x. bit_at (set x) (suc i)) xs (λ x. sym (bit_at-suc (set x) i)) ∙ (once (suc i) ∙ bit_at-suc customers i)

lowest : {X : Type 0} (set : X → ℕ) (xs : List X) (customers : ℕ) → ((i : ℕ) → sum_by (λ x. bit_at (set x) i) xs ≡ bit_at customers i) → sum_by (λ x. set x % 2) xs ≡ customers % 2
lowest set xs customers once = sum_by_same (λ x. set x % 2) (λ x. bit_at (set x) 0) xs (λ x. sym (bit_at_lowest (set x))) ∙ (once 0 ∙ bit_at_lowest customers)

pub load_of_once : {X : Type 0} (ws : List ℕ) (set : X → ℕ) (xs : List X) (customers : ℕ) → ((i : ℕ) → sum_by (λ x. bit_at (set x) i) xs ≡ bit_at customers i) → sum_by (λ x. load_of ws (set x)) xs ≡ load_of ws customers
load_of_once [] set xs customers once = sum_by_zeros xs
load_of_once (w ∷ ws) set xs customers once =
    omega (arith, sum_by_sum (λ x. set x % 2 * w) (λ x. load_of ws (set x / 2)) xs, sum_by_times (λ x. set x % 2) w xs, ap (λ n. n * w) (lowest set xs customers once), load_of_once ws (λ x. set x / 2) xs (customers / 2) (halves set xs customers once))

pub dual_sum_once : {X : Type 0} (ys : List ℤ) (set : X → ℕ) (xs : List X) (customers : ℕ) → ((i : ℕ) → sum_by (λ x. bit_at (set x) i) xs ≡ bit_at customers i) → total (λ x. dual_sum ys (set x)) xs ≡ dual_sum ys customers
dual_sum_once [] set xs customers once = zeros xs
  where
    zeros : {X : Type 0} (xs : List X) → total (λ x. pos 0) xs ≡ pos 0
    zeros [] = refl
    zeros (x ∷ xs) = let rest = zeros xs in omega (arith, ints)
dual_sum_once (y ∷ ys) set xs customers once =
    let here = total_times (λ x. set x % 2) y xs ∙ ap (λ n. pos n *ℤ y) (lowest set xs customers once) in
    let rest = dual_sum_once ys (λ x. set x / 2) xs (customers / 2) (halves set xs customers once) in
    total_sum (λ x. pos (set x % 2) *ℤ y) (λ x. dual_sum ys (set x / 2)) xs ∙ (ap (λ z. z +ℤ total (λ x. dual_sum ys (set x / 2)) xs) here ∙ ap (λ z. pos (customers % 2) *ℤ y +ℤ z) rest)

-- a digit of the set for each place
abbrev pub digits : ℕ → ℕ → List ℕ
digits zero set = []
digits (suc k) set = set % 2 ∷ digits k (set / 2)

min_times : (a b : ℕ) → a < 2 → b < 2 → min a b ≡ a * b
min_times zero b p q = omega (arith, zero-mul b)
min_times (suc zero) b p q = omega (arith, one-mul b)
min_times (suc (suc a)) b p q = absurd (omega arith)

pub and_lowest : (a b : ℕ) → bit_and a b % 2 ≡ a % 2 * (b % 2)
and_lowest a b = omega (arith, bit_at_lowest (bit_and a b), bit_at_and a b 0, ap (λ x. min x (bit_at b 0)) (bit_at_lowest a), ap (λ y. min (a % 2) y) (bit_at_lowest b), min_times (a % 2) (b % 2) (omega arith) (omega arith))

pub and_half : (a b : ℕ) → bit_and a b / 2 ≡ bit_and (a / 2) (b / 2)
and_half a b = and_shr a b 1

pub ones_weigh : (k set other : ℕ) → other < 2 ^ k → count_ones (bit_and set other) ≡ load_of (digits k other) set
ones_weigh zero set other lt = let none : other ≡ 0 = omega arith in rw none (ap count_ones (and_zero_r set) ∙ ones-ones 0)
ones_weigh (suc k) set other lt = ones_step (bit_and set other) ∙ (ap (λ n. n + count_ones (bit_and set other / 2)) (and_lowest set other) ∙ ap (λ n. set % 2 * (other % 2) + n) (ap count_ones (and_half set other) ∙ ones_weigh k (set / 2) (other / 2) (omega (arith, pow-suc 2 k))))
