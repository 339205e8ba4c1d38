-- The prices of the rows of a set, one by one.
use Rattle.std.proofs.Common.{◌≡◌, ℕ, zero, suc, ◌+◌, ◌-◌, ◌*◌, ◌/◌, ◌%◌, ◌<◌, ◌≤◌, List, [], ◌∷◌, length, get_or, refl, sym, ◌∙◌, arith, bit_and, bit_or, min, max}
use Rattle.std.specs.Int.{bit_at}
use Rattle.std.specs.Int.Bits.{and_self}
use Rattle.std.specs.Int.RustNames.{bit_xor}
use Rattle.std.specs.List.{All}
use Rattle.std.proofs.Math.Nat.{mul-le-mul_right, zero-mul, one-mul}
use Rattle.std.proofs.lemmas.List.Elements.{All-head, All-tail}
use Rattle.std.proofs.lemmas.Nat.Bits.{bit_at-lt, bit_at-suc, bit_at_and, bit_at_lowest, bit_at_or, bit_at_xor, same_from_bits}
use Rattle.vrp_model.specs.CustomerSet.{IsFirst}
use Rattle.vrp_duals.specs.Folding.{weigh}
use Rattle.vrp_duals.specs.declared.limits.TheConstants.{MAX_SUBSET_ROWS}
use Rattle.vrp_duals.proofs.FoldedRows.{and_half, and_lowest}

-- an odd number and the one before it have all but the lowest bit in common
odd_lowest : (s : ℕ) → s % 2 ≡ 1 → bit_and s (s - 1) % 2 ≡ 0
odd_lowest s odd = and_lowest s (s - 1) ∙ (let even : (s - 1) % 2 ≡ 0 = omega arith in rw even (omega (arith)))

odd_half : (s : ℕ) → s % 2 ≡ 1 → bit_and s (s - 1) / 2 ≡ s / 2
odd_half s odd = and_half s (s - 1) ∙ (let same : (s - 1) / 2 ≡ s / 2 = omega arith in rw same (and_self (s / 2)))

even_lowest : (s : ℕ) → s % 2 ≡ 0 → bit_and s (s - 1) % 2 ≡ 0
even_lowest s even = and_lowest s (s - 1) ∙ rw even (zero-mul ((s - 1) % 2))

even_half : (s : ℕ) → s % 2 ≡ 0 → bit_and s (s - 1) / 2 ≡ bit_and (s / 2) (s / 2 - 1)
even_half s even = and_half s (s - 1) ∙ (let same : (s - 1) / 2 ≡ s / 2 - 1 = omega arith in rw same refl)

weigh_lowest : (ws : List ℕ) (k s d : ℕ) → k < length ws → bit_at s k ≡ 1 → ((i : ℕ) → i < k → bit_at s i ≡ 0) → weigh ws s ≡ get_or ws k d + weigh ws (bit_and s (s - 1))
weigh_lowest [] k s d lt set none = absurd (omega arith)
weigh_lowest (w ∷ ws) zero s d lt set none =
    let odd : s % 2 ≡ 1 = omega (arith, set, bit_at_lowest s) in
    rw (odd, odd_lowest s odd, odd_half s odd) (omega (arith, one-mul w, zero-mul w))
weigh_lowest (w ∷ ws) (suc k) s d lt set none =
    let even : s % 2 ≡ 0 = omega (arith, none 0 (omega arith), bit_at_lowest s) in
    let rest = weigh_lowest ws k (s / 2) d (omega arith) (sym (bit_at-suc s k) ∙ set) (λ i l. sym (bit_at-suc s i) ∙ none (suc i) (omega arith)) in
    rw (even, even_lowest s even, even_half s even) (omega (arith, rest, zero-mul w))

-- the price of the first row, and those of the others
pub weigh_first : (ws : List ℕ) (s row : ℕ) → length ws ≡ MAX_SUBSET_ROWS → IsFirst s row → weigh ws s ≡ get_or ws row 0 + weigh ws (bit_and s (s - 1))
weigh_first ws s row long first = weigh_lowest ws row s 0 (omega (arith, long, first.within)) first.stands first.lowest

pub weigh_small : (ws : List ℕ) (s m : ℕ) → All (λ w. w ≤ m) ws → weigh ws s ≤ length ws * m
weigh_small [] s m each = omega arith
weigh_small (w ∷ ws) s m each = omega (arith, part (s % 2) w (omega arith), All-head (λ w. w ≤ m) w ws each, weigh_small ws (s / 2) m (All-tail (λ w. w ≤ m) w ws each))
  where
    part : (bit w : ℕ) → bit ≤ 1 → bit * w ≤ w
    part bit w le = omega (arith, mul-le-mul_right w le, one-mul w)

-- the rows of one set without the other, and the other way round
pub xor_of_both : (a b : ℕ) → bit_or (bit_xor a (bit_and a b)) (bit_xor b (bit_and b a)) ≡ bit_xor a b
xor_of_both a b = same_from_bits (bit_or (bit_xor a (bit_and a b)) (bit_xor b (bit_and b a))) (bit_xor a b) (λ i.
    each (bit_at a i) (bit_at b i) (bit_at-lt a i) (bit_at-lt b i) (bit_at_or (bit_xor a (bit_and a b)) (bit_xor b (bit_and b a)) i)
    (bit_at_xor a (bit_and a b) i) (bit_at_and a b i) (bit_at_xor b (bit_and b a) i) (bit_at_and b a i) (bit_at_xor a b i))
  where
    each : {o p q r s t : ℕ} (x y : ℕ) → x < 2 → y < 2 → o ≡ max p q → p ≡ (x + r) % 2 → r ≡ min x y → q ≡ (y + s) % 2 → s ≡ min y x → t ≡ (x + y) % 2 → o ≡ t
    each x y p q e f g h i j = omega arith
