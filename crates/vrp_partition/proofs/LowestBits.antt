-- The prices of the customers of a set, one by one.
use Rattle.std.proofs.Common.{◌≡◌, ℕ, zero, suc, ◌+◌, ◌*◌, ◌/◌, ◌%◌, ◌^◌, ◌<◌, ◌≤◌, ◌-◌, List, [], ◌∷◌, length, get_or, refl, sym, ◌∙◌, arith, bit_and, ℤ, pos, ◌+ℤ◌, ◌*ℤ◌, unsigned_abs}
use Rattle.std.specs.Int.{bit_at}
use Rattle.std.specs.Int.Bits.{and_self}
use Rattle.std.specs.List.{All}
use Rattle.std.proofs.Math.Nat.{mul-le-mul_right, zero-mul, one-mul}
use Rattle.std.proofs.Math.IntN.{zero-*ℤ, *ℤ-one, *ℤ_comm, one}
use Rattle.std.proofs.lemmas.Int.{ints}
use Rattle.std.proofs.lemmas.List.Elements.{All-head, All-tail}
use Rattle.std.proofs.lemmas.Nat.Bits.{bit_at-suc, bit_at_and, bit_at_lowest}
use Rattle.vrp_model.specs.CustomerSet.{IsFirst}
use Rattle.vrp_partition.specs.Prices.{dual_sum, load_of}
use Rattle.vrp_partition.proofs.Weights.{and_lowest, and_half}

one_times : (y : ℤ) → pos 1 *ℤ y ≡ y
unfolding one
one_times y = *ℤ_comm (pos 1) y ∙ *ℤ-one y

-- an odd number and the one before it have all but the lowest bit in common
odd_lowest : (s : ℕ) → s % 2 ≡ 1 → bit_and s (s - 1) % 2 ≡ 0
odd_lowest s odd = and_lowest s (s - 1) ∙ (let even : (s - 1) % 2 ≡ 0 = omega arith in rw even (omega (arith)))

odd_half : (s : ℕ) → s % 2 ≡ 1 → bit_and s (s - 1) / 2 ≡ s / 2
odd_half s odd = and_half s (s - 1) ∙ (let same : (s - 1) / 2 ≡ s / 2 = omega arith in rw same (and_self (s / 2)))

even_lowest : (s : ℕ) → s % 2 ≡ 0 → bit_and s (s - 1) % 2 ≡ 0
even_lowest s even = and_lowest s (s - 1) ∙ rw even (zero-mul ((s - 1) % 2))

even_half : (s : ℕ) → s % 2 ≡ 0 → bit_and s (s - 1) / 2 ≡ bit_and (s / 2) (s / 2 - 1)
even_half s even = and_half s (s - 1) ∙ (let same : (s - 1) / 2 ≡ s / 2 - 1 = omega arith in rw same refl)

pub dual_sum_lowest : (ys : List ℤ) (k s : ℕ) (d : ℤ) → k < length ys → bit_at s k ≡ 1 → ((i : ℕ) → i < k → bit_at s i ≡ 0) → dual_sum ys s ≡ get_or ys k d +ℤ dual_sum ys (bit_and s (s - 1))
dual_sum_lowest [] k s d lt set none = absurd (omega arith)
dual_sum_lowest (y ∷ ys) zero s d lt set none =
    let odd : s % 2 ≡ 1 = omega (arith, set, bit_at_lowest s) in
    rw (odd, odd_lowest s odd, odd_half s odd, one_times y, zero-*ℤ y) (omega (arith, ints))
dual_sum_lowest (y ∷ ys) (suc k) s d lt set none =
    let even : s % 2 ≡ 0 = omega (arith, none 0 (omega arith), bit_at_lowest s) in
    let rest = dual_sum_lowest ys k (s / 2) d (omega arith) (sym (bit_at-suc s k) ∙ set) (λ i l. sym (bit_at-suc s i) ∙ none (suc i) (omega arith)) in
    rw (even, even_lowest s even, even_half s even, zero-*ℤ y) (omega (arith, ints))

pub dual_sum_none : (ys : List ℤ) → dual_sum ys 0 ≡ pos 0
dual_sum_none [] = refl
dual_sum_none (y ∷ ys) = rw zero-*ℤ (omega (arith, ints, dual_sum_none ys))

part_small : (bit m : ℕ) (y : ℤ) → bit < 2 → unsigned_abs y ≤ m → unsigned_abs (pos bit *ℤ y) ≤ m
part_small zero m y lt small = rw zero-*ℤ (omega arith)
part_small (suc zero) m y lt small = rw (one_times y) small
part_small (suc (suc bit)) m y lt small = absurd (omega arith)

sum_small : (a b : ℤ) (m n : ℕ) → unsigned_abs a ≤ m → unsigned_abs b ≤ n → unsigned_abs (a +ℤ b) ≤ m + n
sum_small a b m n p q = omega (arith, ints)

pub dual_sum_small : (ys : List ℤ) (s m : ℕ) → All (λ y. unsigned_abs y ≤ m) ys → unsigned_abs (dual_sum ys s) ≤ length ys * m
dual_sum_small [] s m each = omega arith
dual_sum_small (y ∷ ys) s m each =
    let here = part_small (s % 2) m y (omega arith) (All-head (λ y. unsigned_abs y ≤ m) y ys each) in
    let rest = dual_sum_small ys (s / 2) m (All-tail (λ y. unsigned_abs y ≤ m) y ys each) in
    let both = sum_small (pos (s % 2) *ℤ y) (dual_sum ys (s / 2)) m (length ys * m) here rest in
    omega (arith, both)

-- one price more: that of the lowest customer
pub record NextPrice (ys : List ℤ) (s first customers : ℕ) (total : ℤ) : Type 0 where
  pub price : unsigned_abs (get_or ys first (pos 0)) ≤ 2 ^ 52
  pub small : unsigned_abs (total +ℤ get_or ys first (pos 0)) ≤ 2 ^ 61
  pub next : total +ℤ get_or ys first (pos 0) +ℤ dual_sum ys (bit_and s (s - 1)) ≡ dual_sum ys customers

pub next_price : (ys : List ℤ) (s first customers : ℕ) (total : ℤ) → length ys ≡ 256 → All (λ y. unsigned_abs y ≤ 2 ^ 52) ys → IsFirst s first → total +ℤ dual_sum ys s ≡ dual_sum ys customers → NextPrice ys s first customers total
next_price ys s first customers total len small is was =
    let inside : first < length ys = omega (arith, len, is.within) in
    let step = dual_sum_lowest ys first s (pos 0) inside is.stands is.lowest in
    let price : unsigned_abs (get_or ys first (pos 0)) ≤ 2 ^ 52 = small first (pos 0) inside in
    let next : total +ℤ get_or ys first (pos 0) +ℤ dual_sum ys (bit_and s (s - 1)) ≡ dual_sum ys customers = omega (arith, ints, step, was) in
    let a = dual_sum_small ys customers (2 ^ 52) small in
    let b = dual_sum_small ys (bit_and s (s - 1)) (2 ^ 52) small in
    record {
      price = price;
      small = differ (total +ℤ get_or ys first (pos 0)) (dual_sum ys (bit_and s (s - 1))) (dual_sum ys customers) (2 ^ 60) next (omega (arith, b, len)) (omega (arith, a, len));
      next = next;
    }
  where
    differ : (a b c : ℤ) (m : ℕ) → a +ℤ b ≡ c → unsigned_abs b ≤ m → unsigned_abs c ≤ m → unsigned_abs a ≤ m + m
    differ a b c m e p q = omega (arith, ints)

-- without the lowest bit, a set has fewer
pub lowest_dropped : (s left : ℕ) → ((i : ℕ) → bit_at s i ≤ bit_at left i) → (i : ℕ) → bit_at (bit_and s (s - 1)) i ≤ bit_at left i
lowest_dropped s left part i = omega (arith, bit_at_and s (s - 1) i, part i)

-- the same of demands
pub load_of_lowest : (ws : List ℕ) (k s d : ℕ) → k < length ws → bit_at s k ≡ 1 → ((i : ℕ) → i < k → bit_at s i ≡ 0) → load_of ws s ≡ get_or ws k d + load_of ws (bit_and s (s - 1))
load_of_lowest [] k s d lt set none = absurd (omega arith)
load_of_lowest (w ∷ ws) zero s d lt set none =
    let odd : s % 2 ≡ 1 = omega (arith, set, bit_at_lowest s) in
    rw (odd, odd_lowest s odd, odd_half s odd) (omega (arith, one-mul w, zero-mul w))
load_of_lowest (w ∷ ws) (suc k) s d lt set none =
    let even : s % 2 ≡ 0 = omega (arith, none 0 (omega arith), bit_at_lowest s) in
    let rest = load_of_lowest ws k (s / 2) d (omega arith) (sym (bit_at-suc s k) ∙ set) (λ i l. sym (bit_at-suc s i) ∙ none (suc i) (omega arith)) in
    rw (even, even_lowest s even, even_half s even) (omega (arith, rest, zero-mul w))

pub load_of_small : (ws : List ℕ) (s m : ℕ) → All (λ w. w ≤ m) ws → load_of ws s ≤ length ws * m
load_of_small [] s m each = omega arith
load_of_small (w ∷ ws) s m each = omega (arith, part (s % 2) w (omega arith), All-head (λ w. w ≤ m) w ws each, load_of_small ws (s / 2) m (All-tail (λ w. w ≤ m) w ws each))
  where
    part : (bit w : ℕ) → bit ≤ 1 → bit * w ≤ w
    part bit w le = omega (arith, mul-le-mul_right w le, one-mul w)

pub load_of_step : (ws : List ℕ) (s first : ℕ) → length ws ≡ 256 → IsFirst s first → load_of ws s ≡ get_or ws first 0 + load_of ws (bit_and s (s - 1))
load_of_step ws s first len is = load_of_lowest ws first s 0 (omega (arith, len, is.within)) is.stands is.lowest
