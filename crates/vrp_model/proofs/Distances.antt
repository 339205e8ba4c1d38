-- Distances between points by each metric: one number, the same both ways, and not past a bound.
use Rattle.std.proofs.Common.{◌≡◌, ℕ, ◌+◌, ◌*◌, ◌≤◌, max, ℤ, ◌-ℤ◌, subst, sym, ◌∙◌, arith, unsigned_abs, to_z, of_z, Fits, w64}
use Rattle.std.proofs.lemmas.Int.{ints}
use Rattle.vrp_model.specs.declared.metric.Metric.{Metric}
use Rattle.vrp_model.specs.declared.metric.Metric.TheVariants.{Euc2d, Ceil2d, Man2d, Max2d, Att}
use Rattle.vrp_model.specs.Distance.{square_between, manhattan, maximum, IsEuclidean, IsCeiling, IsPseudoEuclidean, IsDistance}
use Rattle.vrp_model.specs.Grid.{IsCoordinate}
use Rattle.vrp_model.proofs.Ceilings.{IsCeiling-zero, IsCeiling-one, IsCeiling-small, IsPseudoEuclidean-zero, IsPseudoEuclidean-one, IsPseudoEuclidean-small}
use Rattle.vrp_model.proofs.Euclid.{square_le, IsEuclidean-between, IsEuclidean-one, IsEuclidean-small}

-- a coordinate, through a signed word
pub coordinate_word : (a : ℤ) → IsCoordinate a → to_z w64 (of_z w64 a) ≡ a
coordinate_word a p = omega (arith, ints, p.0, p.1)

pub apart_words : (k : ℕ) (a b : ℤ) → IsCoordinate a → IsCoordinate b → k ≡ unsigned_abs (to_z w64 (of_z w64 a) -ℤ to_z w64 (of_z w64 b)) → k ≡ unsigned_abs (a -ℤ b)
apart_words k a b p q h = rw (coordinate_word a p, coordinate_word b q) at h

-- how far two numbers are apart, both ways
pub apart_both_directions : (a b : ℤ) → unsigned_abs (a -ℤ b) ≡ unsigned_abs (b -ℤ a)
apart_both_directions a b = omega (arith, ints)

pub apart_self : (a : ℤ) → unsigned_abs (a -ℤ a) ≡ 0
apart_self a = omega (arith, ints)

pub apart_small : (a b : ℤ) → IsCoordinate a → IsCoordinate b → unsigned_abs (a -ℤ b) ≤ 200000000
apart_small a b p q = omega (arith, ints, p.0, p.1, q.0, q.1)

pub square_both_directions : (a b : ℤ × ℤ) → square_between a b ≡ square_between b a
square_both_directions a b = rw (apart_both_directions a.0 b.0, apart_both_directions a.1 b.1)

pub square_self : (a : ℤ × ℤ) → square_between a a ≡ 0
square_self a = rw (apart_self a.0, apart_self a.1)

pub square_small : (east north : ℕ) → east ≤ 200000000 → north ≤ 200000000 → east * east + north * north ≤ 80000000000000000
square_small east north p q = omega (arith, square_le east 200000000 p, square_le north 200000000 q)

pub square_between_small : (a b : ℤ × ℤ) → IsCoordinate a.0 → IsCoordinate a.1 → IsCoordinate b.0 → IsCoordinate b.1 → square_between a b ≤ 80000000000000000
square_between_small a b p q r s = square_small _ _ (apart_small a.0 b.0 p r) (apart_small a.1 b.1 q s)

-- the square that the code computes
pub square_of_words : (a b : ℤ × ℤ) (east north : ℕ) → IsCoordinate a.0 → IsCoordinate a.1 → IsCoordinate b.0 → IsCoordinate b.1 → east ≡ unsigned_abs (to_z w64 (of_z w64 a.0) -ℤ to_z w64 (of_z w64 b.0)) → north ≡ unsigned_abs (to_z w64 (of_z w64 a.1) -ℤ to_z w64 (of_z w64 b.1)) → east * east + north * north ≡ square_between a b
square_of_words a b east north p q r s e n =
    rw (apart_words east a.0 b.0 p r e, apart_words north a.1 b.1 q s n)

-- a square that the code computes on the way fits a word
pub apart_square_fits : (k : ℕ) (a b : ℤ) → IsCoordinate a → IsCoordinate b → k ≡ unsigned_abs (to_z w64 (of_z w64 a) -ℤ to_z w64 (of_z w64 b)) → Fits w64 (k * k)
apart_square_fits k a b p q h =
    let small : k ≤ 200000000 = rw (apart_words k a b p q h) (apart_small a b p q) in
    omega (arith, square_le k 200000000 small)

-- the distances along the axes that the code computes
pub manhattan_of_words : (a b : ℤ × ℤ) (east north : ℕ) → IsCoordinate a.0 → IsCoordinate a.1 → IsCoordinate b.0 → IsCoordinate b.1 → east ≡ unsigned_abs (to_z w64 (of_z w64 a.0) -ℤ to_z w64 (of_z w64 b.0)) → north ≡ unsigned_abs (to_z w64 (of_z w64 a.1) -ℤ to_z w64 (of_z w64 b.1)) → east + north ≡ manhattan a b
manhattan_of_words a b east north p q r s e n =
    rw (apart_words east a.0 b.0 p r e, apart_words north a.1 b.1 q s n)

pub maximum_of_words : (a b : ℤ × ℤ) (east north : ℕ) → IsCoordinate a.0 → IsCoordinate a.1 → IsCoordinate b.0 → IsCoordinate b.1 → east ≡ unsigned_abs (to_z w64 (of_z w64 a.0) -ℤ to_z w64 (of_z w64 b.0)) → north ≡ unsigned_abs (to_z w64 (of_z w64 a.1) -ℤ to_z w64 (of_z w64 b.1)) → max east north ≡ maximum a b
maximum_of_words a b east north p q r s e n =
    rw (apart_words east a.0 b.0 p r e, apart_words north a.1 b.1 q s n)

pub manhattan_both_directions : (a b : ℤ × ℤ) → manhattan a b ≡ manhattan b a
manhattan_both_directions a b = rw (apart_both_directions a.0 b.0, apart_both_directions a.1 b.1)

pub maximum_both_directions : (a b : ℤ × ℤ) → maximum a b ≡ maximum b a
maximum_both_directions a b = rw (apart_both_directions a.0 b.0, apart_both_directions a.1 b.1)

pub IsDistance-both_ways : (metric : Metric) (a b : ℤ × ℤ) (k : ℕ) → IsDistance metric a b k → IsDistance metric b a k
IsDistance-both_ways Euc2d a b k h = let P : ℕ → Type 0 = λ s. IsEuclidean s k in subst P (square_both_directions a b) h
IsDistance-both_ways Ceil2d a b k h = let P : ℕ → Type 0 = λ s. IsCeiling s k in subst P (square_both_directions a b) h
IsDistance-both_ways Man2d a b k h = h ∙ manhattan_both_directions a b
IsDistance-both_ways Max2d a b k h = h ∙ maximum_both_directions a b
IsDistance-both_ways Att a b k h =
    let P : ℕ → Type 0 = λ s. IsPseudoEuclidean s k in subst P (square_both_directions a b) h

pub IsDistance-self : (metric : Metric) (a : ℤ × ℤ) → IsDistance metric a a 0
IsDistance-self Euc2d a = rw (square_self a) (IsEuclidean-between 0 0 (omega arith) (λ h. absurd (omega arith)))
IsDistance-self Ceil2d a = rw (square_self a) IsCeiling-zero
IsDistance-self Man2d a = rw (apart_self a.0, apart_self a.1)
IsDistance-self Max2d a = rw (apart_self a.0, apart_self a.1)
IsDistance-self Att a = rw (square_self a) IsPseudoEuclidean-zero

pub IsDistance-one : (metric : Metric) (a b : ℤ × ℤ) (j k : ℕ) → IsDistance metric a b j → IsDistance metric a b k → j ≡ k
IsDistance-one Euc2d a b j k p q = IsEuclidean-one _ j k p q
IsDistance-one Ceil2d a b j k p q = IsCeiling-one _ j k p q
IsDistance-one Man2d a b j k p q = p ∙ sym q
IsDistance-one Max2d a b j k p q = p ∙ sym q
IsDistance-one Att a b j k p q = IsPseudoEuclidean-one _ j k p q

sum_small : (east north k : ℕ) → east ≤ 200000000 → north ≤ 200000000 → k ≡ east + north → k ≤ 400000000
sum_small east north k p q h = omega arith

greater_small : (east north k : ℕ) → east ≤ 200000000 → north ≤ 200000000 → k ≡ max east north → k ≤ 200000000
greater_small east north k p q h = omega arith

pub IsDistance-small : (metric : Metric) (a b : ℤ × ℤ) (k : ℕ) → IsCoordinate a.0 → IsCoordinate a.1 → IsCoordinate b.0 → IsCoordinate b.1 → IsDistance metric a b k → k ≤ 400000000
IsDistance-small Euc2d a b k p q r s h =
    omega (arith, IsEuclidean-small _ k h (square_between_small a b p q r s))
IsDistance-small Ceil2d a b k p q r s h =
    omega (arith, IsCeiling-small _ k h (square_between_small a b p q r s))
IsDistance-small Man2d a b k p q r s h = sum_small _ _ k (apart_small a.0 b.0 p r) (apart_small a.1 b.1 q s) h
IsDistance-small Max2d a b k p q r s h =
    omega (arith, greater_small _ _ k (apart_small a.0 b.0 p r) (apart_small a.1 b.1 q s) h)
IsDistance-small Att a b k p q r s h =
    omega (arith, IsPseudoEuclidean-small _ k h (square_between_small a b p q r s))
