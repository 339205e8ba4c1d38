-- Lists in which no element stands twice: with the same elements they are rearrangements of each other.
use Rattle.std.proofs.Common.{◌≡◌, ◌≢◌, ℕ, zero, suc, ◌<◌, ◌==◌, List, [], ◌∷◌, get_or, sym, subst, arith, ◌+◌, ◌-◌}
use Rattle.std.proofs.lemmas.List.FromFn.{get_or-range_with_len, length-range_with_len}
use Rattle.std.proofs.lemmas.List.Kept.{AllPairs-from_increasing}
use Rattle.std.specs.List.{All, AllPairs, Contains}
use Rattle.std.specs.List.Sorted.{IsPermutation, IsStrictlyIncreasing}
use Rattle.std.specs.List.{range_with_len, remove}
use Rattle.std.proofs.lemmas.Bool.Decides.{Decides-eqb, nat_tests}
use Rattle.std.proofs.lemmas.List.Elements.{All-contains_itself}
use Rattle.std.proofs.lemmas.List.Sorted.{IsPermutation-refl, IsPermutation-sym, IsPermutation-cons, IsPermutation-remove, IsPermutation-trans, Contains-permutation}
use Rattle.std.proofs.lemmas.Map.Keys.{IsDistinct-IsPermutation}
use Rattle.std.proofs.lemmas.Map.Made.{AllPairs-from_IsDistinct, IsDistinct-from_AllPairs}
use Rattle.vrp_model.specs.Problem.{Problem, customers, place_count}

-- no item stands twice
abbrev pub AreDistinct : {X : Type 0} → List X → Type 0
AreDistinct xs = AllPairs (λ a b. a ≢ b) xs

flips : (x y : ℕ) → (x == y) ≡ (y == x)
flips x y = grind (arith, nat_tests)

-- a rearrangement repeats nothing either
pub AreDistinct-permutation : (xs ys : List ℕ) → IsPermutation xs ys → AreDistinct xs → AreDistinct ys
AreDistinct-permutation xs ys moved distinct = AllPairs-from_IsDistinct Decides-eqb ys (IsDistinct-IsPermutation (λ x y. x == y) flips xs ys moved (IsDistinct-from_AllPairs Decides-eqb xs distinct))

-- what stands behind the head isn't the head
pub head_differs : {X : Type 0} (x : X) (xs : List X) → AreDistinct (x ∷ xs) → All (λ y. x ≢ y) xs
head_differs x xs distinct = λ k d lt. distinct 0 (suc k) d (omega arith) (omega arith)

-- and no item of it stands twice
pub tail_distinct : {X : Type 0} (x : X) (xs : List X) → AreDistinct (x ∷ xs) → AreDistinct xs
tail_distinct x xs distinct = λ i j d lt within. distinct (suc i) (suc j) d (omega arith) (omega arith)

-- what is contained and isn't the head is contained behind it
pub in_tail : {X : Type 0} (x y : X) (xs : List X) → Contains (x ∷ xs) y → x ≢ y → Contains xs y
in_tail x y xs (zero, lt, is) differs = absurd (differs is)
in_tail x y xs (suc k, lt, is) differs = (k, omega (arith, lt), is)

-- what holds of each element holds of one that is contained
pub member_at : (P : ℕ → Type 0) (xs : List ℕ) (x : ℕ) → All P xs → Contains xs x → P x
member_at P xs x all (k, lt, is) = subst P is (all k x lt)

-- what is contained behind the head is contained
pub behind_head : {X : Type 0} (x y : X) (xs : List X) → Contains xs y → Contains (x ∷ xs) y
behind_head x y xs (k, lt, is) = (suc k, omega (arith, lt), is)

-- two lists without repeated elements that have the same ones
pub same_elements : (ys xs : List ℕ) → AreDistinct xs → AreDistinct ys → All (Contains xs) ys → All (Contains ys) xs → IsPermutation xs ys
same_elements [] [] one other covers covered = IsPermutation-refl []
same_elements [] (x ∷ xs) one other covers covered = absurd (let here = covered 0 x (omega arith) in omega (arith, here.1))
same_elements (y ∷ ys) xs one other covers covered =
    let (i, lt, is) = covers 0 y (omega arith) in
    let moved : IsPermutation xs (y ∷ remove xs i) = IsPermutation-remove xs i y lt (sym is) in
    let left : AreDistinct (y ∷ remove xs i) = AreDistinct-permutation xs (y ∷ remove xs i) moved one in
    let rest = same_elements ys (remove xs i) (tail_distinct y (remove xs i) left) (tail_distinct y ys other)
    (λ k d within. in_tail y (get_or ys k d) (remove xs i) (Contains-permutation xs (y ∷ remove xs i) (get_or ys k d) moved (covers (suc k) d (omega (arith, within)))) (head_differs y ys other k d within))
    (λ k d within.
    let here : Contains (remove xs i) (get_or (remove xs i) k d) = All-contains_itself (remove xs i) k d within in
    in_tail y (get_or (remove xs i) k d) ys (member_at (Contains (y ∷ ys)) xs (get_or (remove xs i) k d) covered (Contains-permutation (y ∷ remove xs i) xs (get_or (remove xs i) k d) (IsPermutation-sym xs (y ∷ remove xs i) moved) (behind_head y (get_or (remove xs i) k d) (remove xs i) here)))
    (head_differs y (remove xs i) left k d within)) in
    IsPermutation-trans xs (y ∷ remove xs i) (y ∷ ys) moved (IsPermutation-cons y (remove xs i) ys rest)

-- the numbers from 1 on rise
pub range_rises : (count : ℕ) → IsStrictlyIncreasing (range_with_len 1 count)
range_rises count = λ k lt.
    let bound : k + 1 < count = rw (length-range_with_len 1 count) at lt in
    omega (arith, get_or-range_with_len 1 count k 0 (omega (arith, bound)), get_or-range_with_len 1 count (k + 1) 0 bound)

-- and so do the customers
pub customers_rise : (p : Problem) → IsStrictlyIncreasing (customers p)
customers_rise p = range_rises (place_count p - 1)

-- no customer stands twice among all
pub customers_distinct : (p : Problem) → AreDistinct (customers p)
customers_distinct p =
    let below = AllPairs-from_increasing (customers p) (customers_rise p) in
    λ i j d lt within same. absurd (omega (arith, below i j d lt within, same))
