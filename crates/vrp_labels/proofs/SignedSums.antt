-- Sums of signed numbers that fit.
use Rattle.std.proofs.Common.{int_lt, ◌⊎◌, inl, inr, ◌≡◌, ◌+◌, ◌*◌, ◌<◌, ◌≤◌, ◌^◌, ℕ, ℤ, pos, ◌+ℤ◌, ◌-ℤ◌, ◌≤ℤ◌, ◌∙◌, ap, unsigned_abs, to_z, of_z, w64, arith, FitsSigned, refl}
use Rattle.std.specs.Int.{int_min}
use Rattle.std.proofs.lemmas.Bool.{cases_Bool}
use Rattle.std.proofs.lemmas.Int.{fits_signed_from_abs, ints, to_z-of_z}
use Rattle.vrp_duals.specs.declared.limits.TheConstants.{MAX_ARC_PRICE, MAX_ROW_CHARGE}

pub same_z : (a : ℤ) → unsigned_abs a < 2 ^ 63 → to_z w64 (of_z w64 a) ≡ a
same_z a fits = to_z-of_z w64 a (fits_signed_from_abs w64 a (omega (arith, fits)))

pub sum_fits : (a b : ℤ) → unsigned_abs a + unsigned_abs b < 2 ^ 63 → FitsSigned w64 (to_z w64 (of_z w64 a) +ℤ to_z w64 (of_z w64 b))
sum_fits a b fits =
    let one = same_z a (omega (arith, fits)) in
    let two = same_z b (omega (arith, fits)) in
    rw (one, two) (fits_signed_from_abs w64 (a +ℤ b) (omega (arith, ints, fits)))

pub sum_is : (a b : ℤ) → unsigned_abs a + unsigned_abs b < 2 ^ 63 → to_z w64 (of_z w64 (to_z w64 (of_z w64 a) +ℤ to_z w64 (of_z w64 b))) ≡ a +ℤ b
sum_is a b fits =
    let one = same_z a (omega (arith, fits)) in
    let two = same_z b (omega (arith, fits)) in
    let all = same_z (a +ℤ b) (omega (arith, ints, fits)) in
    rw (one, two, all) refl

pub three_fits : (a b c : ℤ) → unsigned_abs a + unsigned_abs b + unsigned_abs c < 2 ^ 63 → FitsSigned w64 (to_z w64 (of_z w64 (to_z w64 (of_z w64 a) +ℤ to_z w64 (of_z w64 b))) +ℤ to_z w64 (of_z w64 c))
three_fits a b c fits =
    let one = sum_is a b (omega (arith, fits)) in
    let two = same_z c (omega (arith, fits)) in
    rw (one, two) (fits_signed_from_abs w64 (a +ℤ b +ℤ c) (omega (arith, ints, fits)))

pub three_is : (a b c : ℤ) → unsigned_abs a + unsigned_abs b + unsigned_abs c < 2 ^ 63
    → to_z w64 (of_z w64 (to_z w64 (of_z w64 (to_z w64 (of_z w64 a) +ℤ to_z w64 (of_z w64 b))) +ℤ to_z w64 (of_z w64 c))) ≡ a +ℤ b +ℤ c
three_is a b c fits =
    let one = sum_is a b (omega (arith, fits)) in
    let two = same_z c (omega (arith, fits)) in
    let all = same_z (a +ℤ b +ℤ c) (omega (arith, ints, fits)) in
    rw (one, two, all) refl

pub least_trans : (a b c : ℤ) → a ≤ℤ b → b ≤ℤ c → a ≤ℤ c
least_trans a b c p q = omega (arith, ints)

-- ---- labels

-- a label's cost, an arc and what is due: as the code adds them, and no more than that for each unit of load
abbrev pub coded : ℤ → ℤ → ℕ → ℤ
coded c a d = to_z w64 (of_z w64 (to_z w64 (of_z w64 (to_z w64 (of_z w64 c) +ℤ to_z w64 (of_z w64 a))) +ℤ to_z w64 d))

pub charge_z : (d : ℕ) → d ≤ MAX_ROW_CHARGE → to_z w64 d ≡ pos d
charge_z d small = grind (arith, ints)

grown_whole : (c a : ℤ) (d l : ℕ) → unsigned_abs c ≤ (MAX_ARC_PRICE + MAX_ROW_CHARGE) * l → unsigned_abs a ≤ MAX_ARC_PRICE → d ≤ MAX_ROW_CHARGE → l ≤ 2 ^ 12 → coded c a d ≡ c +ℤ a +ℤ pos d
grown_whole c a d l c_small a_small d_small l_small =
    let one = sum_is c a (omega (arith, c_small, a_small, l_small)) in
    let charge : to_z w64 d ≡ pos d = charge_z d d_small in
    let all = same_z (c +ℤ a +ℤ pos d) (omega (arith, ints, c_small, a_small, d_small, l_small)) in
    rw (one, charge, all) refl

pub grown_is : (c a : ℤ) (d l : ℕ) (b : ℤ) (e : ℕ) → a ≡ b → d ≡ e → unsigned_abs c ≤ (MAX_ARC_PRICE + MAX_ROW_CHARGE) * l → unsigned_abs a ≤ MAX_ARC_PRICE → d ≤ MAX_ROW_CHARGE → l ≤ 2 ^ 12 → coded c a d ≡ c +ℤ b +ℤ pos e
grown_is c a d l b e arc due c_small a_small d_small l_small = grown_whole c a d l c_small a_small d_small l_small ∙ rw (arc, due) refl

pub grown_small : (c a : ℤ) (d l m : ℕ) → unsigned_abs c ≤ (MAX_ARC_PRICE + MAX_ROW_CHARGE) * l → unsigned_abs a ≤ MAX_ARC_PRICE → d ≤ MAX_ROW_CHARGE → l ≤ 2 ^ 12 → 1 ≤ m → unsigned_abs (coded c a d) ≤ (MAX_ARC_PRICE + MAX_ROW_CHARGE) * (l + m)
grown_small c a d l m c_small a_small d_small l_small some = rw (grown_whole c a d l c_small a_small d_small l_small) (omega (arith, ints, c_small, a_small, d_small, some))

-- the same without what is due
drawn_whole : (c a : ℤ) (l : ℕ) → unsigned_abs c ≤ (MAX_ARC_PRICE + MAX_ROW_CHARGE) * l → unsigned_abs a ≤ MAX_ARC_PRICE → l ≤ 2 ^ 12 → to_z w64 (of_z w64 (to_z w64 (of_z w64 c) +ℤ to_z w64 (of_z w64 a))) ≡ c +ℤ a
drawn_whole c a l c_small a_small l_small = sum_is c a (omega (arith, c_small, a_small, l_small))

pub drawn_is : (c a : ℤ) (l : ℕ) (b : ℤ) → a ≡ b → unsigned_abs c ≤ (MAX_ARC_PRICE + MAX_ROW_CHARGE) * l → unsigned_abs a ≤ MAX_ARC_PRICE → l ≤ 2 ^ 12 → to_z w64 (of_z w64 (to_z w64 (of_z w64 c) +ℤ to_z w64 (of_z w64 a))) ≡ c +ℤ b
drawn_is c a l b arc c_small a_small l_small = drawn_whole c a l c_small a_small l_small ∙ ap (λ (z : ℤ). c +ℤ z) arc

pub drawn_small : (c a : ℤ) (l m : ℕ) → unsigned_abs c ≤ (MAX_ARC_PRICE + MAX_ROW_CHARGE) * l → unsigned_abs a ≤ MAX_ARC_PRICE → l ≤ 2 ^ 12 → 1 ≤ m
    → unsigned_abs (to_z w64 (of_z w64 (to_z w64 (of_z w64 c) +ℤ to_z w64 (of_z w64 a)))) ≤ (MAX_ARC_PRICE + MAX_ROW_CHARGE) * (l + m)
drawn_small c a l m c_small a_small l_small some = rw (drawn_whole c a l c_small a_small l_small) (omega (arith, ints, c_small, a_small, some))

-- a cost and a charge
pub paid_is : (c : ℤ) (d : ℕ) → unsigned_abs c + d < 2 ^ 63 → d ≤ MAX_ROW_CHARGE → to_z w64 (of_z w64 (to_z w64 (of_z w64 c) +ℤ to_z w64 d)) ≡ c +ℤ pos d
paid_is c d fits small =
    let one = same_z c (omega (arith, fits)) in
    let charge = charge_z d small in
    let all = same_z (c +ℤ pos d) (omega (arith, ints, fits)) in
    rw (one, charge, all) refl

pub paid_fits : (c : ℤ) (d : ℕ) → unsigned_abs c + d < 2 ^ 63 → d ≤ MAX_ROW_CHARGE → FitsSigned w64 (to_z w64 (of_z w64 c) +ℤ to_z w64 d)
paid_fits c d fits small =
    let one = same_z c (omega (arith, fits)) in
    let charge = charge_z d small in
    rw (one, charge) (fits_signed_from_abs w64 (c +ℤ pos d) (omega (arith, ints, fits)))

-- a charge that is no more than what two costs differ by
pub pays_at_most : (a b : ℤ) (e n : ℕ) → a ≤ℤ b → n ≡ unsigned_abs (b -ℤ a) → e ≤ n → (a +ℤ pos e) ≤ℤ b
pays_at_most a b e n le is small = omega (arith, ints)

pub paid_at_most : (a b : ℤ) (e n : ℕ) → a ≤ℤ b → n ≡ unsigned_abs (b -ℤ a) → (a +ℤ pos e) ≤ℤ b → e ≤ n
paid_at_most a b e n le is whole = omega (arith, ints)

-- equal sums are coded alike
pub three_alike : (a b c x y z : ℤ) → unsigned_abs a + unsigned_abs b + unsigned_abs c < 2 ^ 63 → unsigned_abs x + unsigned_abs y + unsigned_abs z < 2 ^ 63 → a +ℤ b +ℤ c ≡ x +ℤ y +ℤ z
    → of_z w64 (to_z w64 (of_z w64 (to_z w64 (of_z w64 a) +ℤ to_z w64 (of_z w64 b))) +ℤ to_z w64 (of_z w64 c)) ≡ of_z w64 (to_z w64 (of_z w64 (to_z w64 (of_z w64 x) +ℤ to_z w64 (of_z w64 y))) +ℤ to_z w64 (of_z w64 z))
three_alike a b c x y z fits too same =
    let one = sum_is a b (omega (arith, fits)) in
    let two = same_z c (omega (arith, fits)) in
    let three = sum_is x y (omega (arith, too)) in
    let four = same_z z (omega (arith, too)) in
    rw (one, two, three, four) (ap (of_z w64) same)

-- a cost with the first arc in place of the last one
pub reversed_is : (c a b x y : ℤ) → unsigned_abs c + unsigned_abs a + unsigned_abs b < 2 ^ 63 → a ≡ x → b ≡ y
    → to_z w64 (of_z w64 (to_z w64 (of_z w64 (to_z w64 (of_z w64 c) +ℤ to_z w64 (of_z w64 a))) -ℤ to_z w64 (of_z w64 b))) ≡ c +ℤ x -ℤ y
reversed_is c a b x y fits first last =
    let one = sum_is c a (omega (arith, fits)) in
    let two = same_z b (omega (arith, fits)) in
    let all = same_z (c +ℤ a -ℤ b) (omega (arith, ints, fits)) in
    rw (one, two, all) (rw (first, last) refl)

pub reversed_small : (c a b : ℤ) (l : ℕ) → unsigned_abs c ≤ (MAX_ARC_PRICE + MAX_ROW_CHARGE) * l → l ≤ 2 ^ 12 → unsigned_abs a ≤ MAX_ARC_PRICE → unsigned_abs b ≤ MAX_ARC_PRICE
    → unsigned_abs (to_z w64 (of_z w64 (to_z w64 (of_z w64 (to_z w64 (of_z w64 c) +ℤ to_z w64 (of_z w64 a))) -ℤ to_z w64 (of_z w64 b)))) ≤ 2 ^ 62
reversed_small c a b l c_small l_small a_small b_small = rw (reversed_is c a b a b (omega (arith, c_small, l_small, a_small, b_small)) refl refl) (omega (arith, ints, c_small, l_small, a_small, b_small))

-- the lesser of two numbers is one of them
pub min_either : (a b : ℤ) → (int_min a b ≡ a) ⊎ (int_min a b ≡ b)
min_either a b = elim (cases_Bool (int_lt b a)) [ inl below ↦ inr (rw below refl) | inr above ↦ inl (rw above refl) ]
