-- The price of an arc, and sums of numbers with a sign that fit.
use Rattle.std.proofs.Common.{◌≡◌, ℕ, zero, suc, ◌+◌, ◌-◌, ◌*◌, ◌/◌, ◌%◌, ◌^◌, ◌<◌, ◌≤◌, List, length, get_or, refl, sym, ◌∙◌, ap, subst, arith, ℤ, pos, ◌+ℤ◌, ◌-ℤ◌, ◌*ℤ◌, unsigned_abs, to_z, of_z, w64, FitsSigned}
use Rattle.std.specs.Int.{bit_at}
use Rattle.std.specs.List.{range_with_len}
use Rattle.std.proofs.Math.IntN.{zero-*ℤ}
use Rattle.std.proofs.Math.Nat.{mul-le-mul_right}
use Rattle.std.proofs.lemmas.Int.{fits_signed_from_abs, ints, to_z-of_z, to_z_pos}
use Rattle.std.proofs.lemmas.List.{get_or_default}
use Rattle.std.proofs.lemmas.Nat.{div-mul-add, mod-mul-add, mul-add-lt}
use Rattle.vrp_model.specs.Problem.{Problem, weight_of}
use Rattle.vrp_model.specs.declared.limits.TheConstants.{MAX_WEIGHT}
use Rattle.vrp_duals.specs.Duals.{AreModerate, DualsOf, entry, int_sum_by, price_of}
use Rattle.vrp_duals.specs.declared.limits.TheConstants.{MAX_ARC_PRICE, MAX_PRICE, MAX_SCALE}

-- ---- entries

-- an arc that does not enter the set is paid nothing
pub none_paid : (set from to : ℕ) (y : ℤ) → entry set from to ≡ 0 → pos 0 ≡ pos (entry set from to) *ℤ y
none_paid set from to y none = sym (ap (λ n. pos n *ℤ y) none ∙ zero-*ℤ y)

pub no_entry_outside : (set from to : ℕ) → bit_at set to ≡ 0 → entry set from to ≡ 0
no_entry_outside set from to outside = omega (arith, outside)

-- ---- sums

-- one more of the places is summed
pub range_step : (f : ℕ → ℤ) (j n : ℕ) → j < n → int_sum_by f (range_with_len j (n - j)) ≡ f j +ℤ int_sum_by f (range_with_len (j + 1) (n - (j + 1)))
range_step f j n lt = ap (λ k. int_sum_by f (range_with_len j k)) (let same : n - j ≡ suc (n - (j + 1)) = omega (arith, lt) in same)

pub same_z : (a : ℤ) → unsigned_abs a < 2 ^ 63 → to_z w64 (of_z w64 a) ≡ a
same_z a fits = to_z-of_z w64 a (fits_signed_from_abs w64 a (omega (arith, fits)))

pub added : (n : ℕ) (s x : ℤ) → to_z w64 n ≡ s → unsigned_abs s + unsigned_abs x < 2 ^ 63 → to_z w64 (of_z w64 (to_z w64 n +ℤ to_z w64 (of_z w64 x))) ≡ s +ℤ x
added n s x is fits =
    let one = same_z x (omega (arith, fits)) in
    let all = same_z (s +ℤ x) (omega (arith, ints, fits)) in
    rw (is, one, all) refl

pub combined_is : (a b r : ℤ) → unsigned_abs a ≤ 2 ^ 54 → unsigned_abs b ≤ 2 ^ 58 → unsigned_abs r ≤ 2 ^ 46
    → to_z w64 (of_z w64 (to_z w64 (of_z w64 (to_z w64 (of_z w64 a) +ℤ to_z w64 (of_z w64 b))) -ℤ to_z w64 (of_z w64 r))) ≡ a +ℤ b -ℤ r
combined_is a b r p q s =
    let first = same_z a (omega (arith, p)) in
    let second = same_z b (omega (arith, q)) in
    let third = same_z r (omega (arith, s)) in
    let both = same_z (a +ℤ b) (omega (arith, ints, p, q)) in
    let all = same_z (a +ℤ b -ℤ r) (omega (arith, ints, p, q, s)) in
    rw (first, second, third, both, all) refl

pub same_low : (a a' b b' r r' : ℤ) → a ≡ a' → b ≡ b' → r ≡ r' → a +ℤ b -ℤ r ≡ a' +ℤ b' -ℤ r'
same_low a a' b b' r r' e f g = cc

-- ---- the price of an arc

pub record IsDifference (n : ℕ) (y v z : ℤ) : Type 0 where
  pub value : z ≡ pos n -ℤ y -ℤ v
  pub small : unsigned_abs z ≤ MAX_ARC_PRICE

pub difference_fits : (n : ℕ) (y v : ℤ) → n ≤ 2 ^ 47 → unsigned_abs y ≤ MAX_PRICE → unsigned_abs v ≤ 2 ^ 42
    → FitsSigned w64 (to_z w64 (of_z w64 (to_z w64 n -ℤ to_z w64 (of_z w64 y))) -ℤ to_z w64 (of_z w64 v))
difference_fits n y v a b c =
    let first : to_z w64 n ≡ pos n = to_z_pos w64 n (omega (arith, a)) in
    let second = same_z y (omega (arith, b)) in
    let third = same_z v (omega (arith, c)) in
    let both = same_z (pos n -ℤ y) (omega (arith, ints, a, b)) in
    rw (first, second, third, both) (fits_signed_from_abs w64 (pos n -ℤ y -ℤ v) (omega (arith, ints, a, b, c)))

pub difference_is : (n : ℕ) (y v : ℤ) → n ≤ 2 ^ 47 → unsigned_abs y ≤ MAX_PRICE → unsigned_abs v ≤ 2 ^ 42
    → IsDifference n y v (to_z w64 (of_z w64 (to_z w64 (of_z w64 (to_z w64 n -ℤ to_z w64 (of_z w64 y))) -ℤ to_z w64 (of_z w64 v))))
difference_is n y v a b c =
    let first : to_z w64 n ≡ pos n = to_z_pos w64 n (omega (arith, a)) in
    let second = same_z y (omega (arith, b)) in
    let third = same_z v (omega (arith, c)) in
    let both = same_z (pos n -ℤ y) (omega (arith, ints, a, b)) in
    let all = same_z (pos n -ℤ y -ℤ v) (omega (arith, ints, a, b, c)) in
    rw (first, second, third, both, all) (record { value = refl; small = omega (arith, ints, a, b, c) })

-- a weight in price units, and the price of the place that the arc comes to
pub record IsRead (p : Problem) (d : DualsOf) (from to n : ℕ) (y : ℤ) : Type 0 where
  pub weight : n ≡ d.scale * weight_of p from to
  pub weight_small : n ≤ 2 ^ 47
  pub price : y ≡ price_of d to
  pub price_small : unsigned_abs y ≤ MAX_PRICE

pub was_read : (p : Problem) (d : DualsOf) (from to scale weight index : ℕ) (y : ℤ) → AreModerate d → to < length d.prices → scale ≡ d.scale → weight ≡ weight_of p from to → weight ≤ MAX_WEIGHT → index ≡ to → y ≡ get_or d.prices index y
    → IsRead p d from to (scale * weight) y
was_read p d from to scale weight index y is lt s w light at read =
    let y_is : y ≡ price_of d to = read ∙ (ap (λ k. get_or d.prices k y) at ∙ get_or_default d.prices to y (pos 0) lt) in
    record {
      weight = ap (λ n. n * weight) s ∙ ap (λ n. d.scale * n) w;
      weight_small = scaled scale weight (omega (arith, s, is.small_scale)) light;
      price = y_is;
      price_small = subst (λ z. unsigned_abs z ≤ MAX_PRICE) (sym y_is) (is.small_prices to (pos 0) lt);
    }
  where
    scaled : (a b : ℕ) → a ≤ MAX_SCALE → b ≤ MAX_WEIGHT → a * b ≤ 2 ^ 47
    scaled a b p q = omega (arith, mul-le-mul_right b p)

pub same_difference : (n n' : ℕ) (y y' v v' : ℤ) → n ≡ n' → y ≡ y' → v ≡ v' → pos n -ℤ y -ℤ v ≡ pos n' -ℤ y' -ℤ v'
same_difference n n' y y' v v' e f g = cc

-- ---- the table of all arcs

pub table_at : (value : ℕ → ℕ → ℤ) (items : List ℤ) (places : ℕ) → length items ≡ places * places → ((k : ℕ) → k < length items → get_or items k (pos 0) ≡ value (k / places) (k % places))
    → (i j : ℕ) → i < places → j < places → get_or items (i * places + j) (pos 0) ≡ value i j
table_at value items places long each i j is js =
    let k = i * places + j in
    let row : k / places ≡ i = div-mul-add i places j js in
    let column : k % places ≡ j = mod-mul-add i places j js in
    each k (omega (arith, long, mul-add-lt i places j places is js)) ∙ (ap (λ n. value n (k % places)) row ∙ ap (value i) column)

pub pair_inside : (places k : ℕ) → k < places * places → 0 < places
pair_inside zero k lt = absurd (omega (arith, lt))
pair_inside (suc n) k lt = omega arith
