-- A list in which no element stands twice, and whose elements are all among those of another: it is no longer than the other,
-- and has no greater sum.
use Rattle.std.proofs.Common.{◌≡◌, ℕ, suc, ◌≤◌, List, [], ◌∷◌, ◌++◌, length, length-append, get_or, sym, subst, ap, ◌∙◌, append-nil, arith}
use Rattle.std.specs.List.{All, Contains, remove, sum_by}
use Rattle.std.specs.List.Sorted.{IsPermutation}
use Rattle.std.proofs.lemmas.List.Elements.{All-contains_itself}
use Rattle.std.proofs.lemmas.List.Sorted.{IsPermutation-refl, IsPermutation-cons, IsPermutation-remove, IsPermutation-trans, Contains-permutation, length_permutation, sum_by-IsPermutation}
use Rattle.std.proofs.lemmas.List.{nil_from_length}
use Rattle.std.proofs.lemmas.List.Sums.{sum_by-append}
use Rattle.vrp_model.proofs.DistinctLists.{AreDistinct, head_differs, in_tail, tail_distinct}

-- a rearrangement of the other list begins with it
pub begins_among : {X : Type 0} (xs ys : List X) → AreDistinct xs → All (Contains ys) xs → (others : List X) × IsPermutation ys (xs ++ others)
begins_among [] ys one all = (ys, IsPermutation-refl ys)
begins_among (x ∷ xs) ys one all =
    let (i, lt, is) = all 0 x (omega arith) in
    let moved : IsPermutation ys (x ∷ remove ys i) = IsPermutation-remove ys i x lt (sym is) in
    let rest = begins_among xs (remove ys i) (tail_distinct x xs one)
    (λ k d within. in_tail x (get_or xs k d) (remove ys i) (Contains-permutation ys (x ∷ remove ys i) (get_or xs k d) moved (all (suc k) d (omega (arith, within)))) (head_differs x xs one k d within)) in
    (rest.0, IsPermutation-trans ys (x ∷ remove ys i) (x ∷ (xs ++ rest.0)) moved (IsPermutation-cons x (remove ys i) (xs ++ rest.0) rest.1))

-- so its sum is no greater
pub sum_among : (f : ℕ → ℕ) (xs ys : List ℕ) → AreDistinct xs → All (Contains ys) xs → sum_by f xs ≤ sum_by f ys
sum_among f xs ys one all =
    let (others, moved) = begins_among xs ys one all in
    omega (arith, sum_by-IsPermutation f ys (xs ++ others) moved, sum_by-append f xs others)

-- and it is no longer
pub length_among : {X : Type 0} (xs ys : List X) → AreDistinct xs → All (Contains ys) xs → length xs ≤ length ys
length_among xs ys one all =
    let (others, moved) = begins_among xs ys one all in
    omega (arith, length_permutation ys (xs ++ others) moved, length-append xs others)

-- where it is as long, it has every element of the other
pub all_among : (xs ys : List ℕ) → AreDistinct xs → All (Contains ys) xs → length xs ≡ length ys → All (Contains xs) ys
all_among xs ys one all as_many =
    let (others, moved) = begins_among xs ys one all in
    let none : length others ≡ 0 = omega (arith, length_permutation ys (xs ++ others) moved, length-append xs others, as_many) in
    let whole : xs ++ others ≡ xs = ap (λ (zs : List ℕ). xs ++ zs) (nil_from_length others none) ∙ append-nil xs in
    let moved_whole : IsPermutation ys xs = subst (IsPermutation ys) whole moved in
    λ k d lt. Contains-permutation ys xs (get_or ys k d) moved_whole (All-contains_itself ys k d lt)
