-- Sums over lists.
use Rattle.std.proofs.Common.{◌≡◌, ℕ, zero, suc, ◌+◌, ◌*◌, ◌≤◌, List, [], ◌∷◌, ◌++◌, refl, sym, ◌∙◌, ap, arith, ℤ, pos, negsuc, ◌+ℤ◌, ◌*ℤ◌, ◌≤ℤ◌}
use Rattle.std.specs.List.{All, sum_by}
use Rattle.std.specs.List.Sorted.{IsPermutation}
use Rattle.std.proofs.Math.Nat.{add-mul, zero-mul, mul-le-mul_right}
use Rattle.std.proofs.Math.IntN.{pos-*ℤ-pos, pos-*ℤ-negsuc}
use Rattle.std.proofs.lemmas.Int.{ints}
use Rattle.std.proofs.lemmas.List.Elements.{All-head, All-tail}
use Rattle.std.proofs.lemmas.List.Sorted.{sum_by-IsPermutation}
use Rattle.std.proofs.lemmas.List.Sums.{sum_by-cons}
use borrow.Author.Differences.{up, down}
use Rattle.vrp_duals.specs.Duals.{int_sum_by}

pub sum_by_same : {X : Type 0} (f h : X → ℕ) (xs : List X) → ((x : X) → f x ≡ h x) → sum_by f xs ≡ sum_by h xs
sum_by_same f h [] e = refl
sum_by_same f h (x ∷ xs) e = omega (arith, sum_by-cons f x xs, sum_by-cons h x xs, sum_by_same f h xs e, e x)

pub sum_by_sum : {X : Type 0} (f h : X → ℕ) (xs : List X) → sum_by (λ x. f x + h x) xs ≡ sum_by f xs + sum_by h xs
sum_by_sum f h [] = refl
sum_by_sum f h (x ∷ xs) = omega (arith, sum_by-cons f x xs, sum_by-cons h x xs, sum_by-cons (λ y. f y + h y) x xs, sum_by_sum f h xs)

pub sum_by_times : {X : Type 0} (f : X → ℕ) (w : ℕ) (xs : List X) → sum_by (λ x. f x * w) xs ≡ sum_by f xs * w
sum_by_times f w [] = sym (zero-mul w)
sum_by_times f w (x ∷ xs) = rw (sum_by-cons f x xs, add-mul (f x) (sum_by f xs) w) (sum_by-cons (λ y. f y * w) x xs ∙ ap (λ n. f x * w + n) (sum_by_times f w xs))

pub sum_by_zeros : {X : Type 0} (xs : List X) → sum_by (λ x. 0) xs ≡ 0
sum_by_zeros [] = refl
sum_by_zeros (x ∷ xs) = sum_by-cons (λ y. 0) x xs ∙ omega (arith, sum_by_zeros xs)

-- rows and columns summed in either order
pub swapped : {X R : Type 0} (f : X → R → ℕ) (rows : List R) (xs : List X) → sum_by (λ x. sum_by (f x) rows) xs ≡ sum_by (λ r. sum_by (λ x. f x r) xs) rows
swapped f [] xs = sum_by_zeros xs
swapped f (r ∷ rows) xs =
    sum_by_same (λ x. sum_by (f x) (r ∷ rows)) (λ x. f x r + sum_by (f x) rows) xs (λ x. sum_by-cons (f x) r rows)
    ∙ (sum_by_sum (λ x. f x r) (λ x. sum_by (f x) rows) xs
    ∙ (ap (λ n. sum_by (λ x. f x r) xs + n) (swapped f rows xs) ∙ sym (sum_by-cons (λ r. sum_by (λ x. f x r) xs) r rows)))

pub sum_by_le : {R : Type 0} (f h : R → ℕ) (rows : List R) → All (λ r. f r ≤ h r) rows → sum_by f rows ≤ sum_by h rows
sum_by_le f h [] each = omega arith
sum_by_le f h (r ∷ rows) each = omega (arith, sum_by-cons f r rows, sum_by-cons h r rows, All-head (λ r. f r ≤ h r) r rows each, sum_by_le f h rows (All-tail (λ r. f r ≤ h r) r rows each))

pub int_sum_same : {X : Type 0} (f h : X → ℤ) (xs : List X) → ((x : X) → f x ≡ h x) → int_sum_by f xs ≡ int_sum_by h xs
int_sum_same f h [] e = refl
int_sum_same f h (x ∷ xs) e = let rest = int_sum_same f h xs e in let here = e x in omega (arith, ints)

pub int_sum_sum : {X : Type 0} (f h : X → ℤ) (xs : List X) → int_sum_by (λ x. f x +ℤ h x) xs ≡ int_sum_by f xs +ℤ int_sum_by h xs
int_sum_sum f h [] = refl
int_sum_sum f h (x ∷ xs) = let rest = int_sum_sum f h xs in omega (arith, ints)

pub times-add : (a b : ℕ) (y : ℤ) → pos (a + b) *ℤ y ≡ pos a *ℤ y +ℤ pos b *ℤ y
times-add a b (pos n) = simp pos-*ℤ-pos (omega (arith, ints, add-mul a b n))
times-add a b (negsuc n) = simp pos-*ℤ-negsuc (omega (arith, ints, add-mul a b (suc n)))

pub int_sum_zeros : {X : Type 0} (xs : List X) → int_sum_by (λ x. pos 0) xs ≡ pos 0
int_sum_zeros [] = refl
int_sum_zeros (x ∷ xs) = let rest = int_sum_zeros xs in omega (arith, ints)

pub int_sum_append : {X : Type 0} (f : X → ℤ) (xs ys : List X) → int_sum_by f (xs ++ ys) ≡ int_sum_by f xs +ℤ int_sum_by f ys
int_sum_append f [] ys = omega (arith, ints)
int_sum_append f (x ∷ xs) ys = let rest = int_sum_append f xs ys in omega (arith, ints)

pub int_sum_le : {R : Type 0} (f h : R → ℤ) (rows : List R) → All (λ r. f r ≤ℤ h r) rows → int_sum_by f rows ≤ℤ int_sum_by h rows
int_sum_le f h [] each = omega (arith, ints)
int_sum_le f h (r ∷ rows) each =
    let here = All-head (λ r. f r ≤ℤ h r) r rows each in
    let rest = int_sum_le f h rows (All-tail (λ r. f r ≤ℤ h r) r rows each) in
    omega (arith, ints)

-- a sum with signs is that of the numbers above 0, less that of those below
split : {X : Type 0} (f : X → ℤ) (xs : List X) → int_sum_by f xs +ℤ pos (sum_by (λ x. down (f x)) xs) ≡ pos (sum_by (λ x. up (f x)) xs)
split f [] = refl
split f (x ∷ xs) =
    let rest = split f xs in
    omega (arith, ints, sum_by-cons (λ x. down (f x)) x xs, sum_by-cons (λ x. up (f x)) x xs)

-- so the order makes no difference
pub int_sum_permutation : {X : Type 0} (f : X → ℤ) (xs ys : List X) → IsPermutation xs ys → int_sum_by f ys ≡ int_sum_by f xs
int_sum_permutation f xs ys moved =
    let one = split f xs in
    let other = split f ys in
    omega (arith, ints, sum_by-IsPermutation (λ x. down (f x)) xs ys moved, sum_by-IsPermutation (λ x. up (f x)) xs ys moved)

-- more of a price that is no less than 0 is more, and of one that is no more it is less
pub times_le : (a b : ℕ) (y : ℤ) → pos 0 ≤ℤ y → a ≤ b → (pos a *ℤ y) ≤ℤ (pos b *ℤ y)
times_le a b (pos n) some le = simp pos-*ℤ-pos (omega (arith, ints, mul-le-mul_right n le))
times_le a b (negsuc n) some le = absurd (omega (arith, ints))

pub times_ge : (a b : ℕ) (y : ℤ) → y ≤ℤ pos 0 → b ≤ a → (pos a *ℤ y) ≤ℤ (pos b *ℤ y)
times_ge a b (pos zero) none le = simp pos-*ℤ-pos (omega (arith, ints))
times_ge a b (pos (suc n)) none le = absurd (omega (arith, ints))
times_ge a b (negsuc n) none le = simp pos-*ℤ-negsuc (omega (arith, ints, mul-le-mul_right (suc n) le))
