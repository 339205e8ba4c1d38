-- Lists of pieces that weigh the same, however pieces are weighed, have the same pieces, each as often.
use Rattle.std.proofs.Common.{◌≡◌, ℕ, ◌<◌, ◌==◌, ◌∙◌, Bool, true, false, true≢false, cond, List, [], ◌∷◌, length, sym, refl, ⊎_elim, arith}
use Rattle.std.specs.Str.{bytes_eq}
use Rattle.std.specs.List.{Contains, remove, sum_by}
use Rattle.std.specs.List.Sorted.{IsPermutation}
use Rattle.std.proofs.lemmas.Slice.Eq.{bytes_eq-Decides}
use Rattle.std.proofs.lemmas.Bool.{cases_Bool, cond-true, cond-false}
use Rattle.std.proofs.lemmas.Bool.Decides.{Decides-eqb}
use Rattle.std.proofs.lemmas.List.Sorted.{IsPermutation-refl, IsPermutation-sym, IsPermutation-cons, IsPermutation-remove, IsPermutation-trans, sum_by-IsPermutation}
use Rattle.std.proofs.lemmas.List.Sums.{sum_by-cons}
use Rattle.vrp_model.proofs.DistinctLists.{behind_head}
use Rattle.vrp_search_tree.specs.Cutting.{NumberedWord}

abbrev same_piece : NumberedWord → NumberedWord → Bool
same_piece x y = cond (x.number == y.number) (bytes_eq x.word y.word) false

same_itself : (x : NumberedWord) → same_piece x x ≡ true
same_itself x = cond-true (x.number == x.number) (bytes_eq x.word x.word) false ((Decides-eqb x.number x.number).1 refl) ∙ (bytes_eq-Decides x.word x.word).1 refl

made_of : (x y : NumberedWord) → x.number ≡ y.number → x.word ≡ y.word → x ≡ y
made_of x y number word = rw (number, word) refl

same_is : (x y : NumberedWord) → same_piece x y ≡ true → x ≡ y
same_is x y same =
    ⊎_elim
    (λ (number : (x.number == y.number) ≡ true).
    made_of x y ((Decides-eqb x.number y.number).0 number) ((bytes_eq-Decides x.word y.word).0 (sym (cond-true (x.number == y.number) (bytes_eq x.word y.word) false number) ∙ same)))
    (λ (other : (x.number == y.number) ≡ false). absurd (true≢false (sym same ∙ cond-false (x.number == y.number) (bytes_eq x.word y.word) false other)))
    (cases_Bool (x.number == y.number))

-- the weight of this one piece is 1, and of any other 0
abbrev pub mark : NumberedWord → NumberedWord → ℕ
mark x y = cond (same_piece x y) 1 0

pub marks_itself : (x : NumberedWord) → mark x x ≡ 1
marks_itself x = cond-true {A = ℕ} (same_piece x x) 1 0 (same_itself x)

-- a piece that weighs something is there
pub found : (x : NumberedWord) (ys : List NumberedWord) → 0 < sum_by (mark x) ys → Contains ys x
found x [] some = absurd (omega (arith, some))
found x (y ∷ ys) some =
    ⊎_elim
    (λ (same : same_piece x y ≡ true). (0, omega arith, sym (same_is x y same)))
    (λ (other : same_piece x y ≡ false). behind_head y x ys (found x ys (omega (arith, some, sum_by-cons (mark x) y ys, cond-false {A = ℕ} (same_piece x y) 1 0 other))))
    (cases_Bool (same_piece x y))

pub ones : (xs : List NumberedWord) → sum_by (λ _. 1) xs ≡ length xs
ones [] = refl
ones (x ∷ xs) = omega (arith, ones xs, sum_by-cons (λ (y : NumberedWord). 1) x xs)

pub same_pieces : (xs ys : List NumberedWord) → ((weight : NumberedWord → ℕ) → sum_by weight xs ≡ sum_by weight ys) → IsPermutation xs ys
same_pieces [] [] same = IsPermutation-refl []
same_pieces [] (y ∷ ys) same = absurd (omega (arith, same (λ _. 1), sum_by-cons (λ (z : NumberedWord). 1) y ys))
same_pieces (x ∷ xs) ys same =
    let (place, within, is) = found x ys (omega (arith, same (mark x), sum_by-cons (mark x) x xs, marks_itself x)) in
    let moved : IsPermutation ys (x ∷ remove ys place) = IsPermutation-remove ys place x within (sym is) in
    let rest = same_pieces xs (remove ys place) (λ weight. omega (arith, same weight, sum_by-cons weight x xs, sum_by-cons weight x (remove ys place), sum_by-IsPermutation weight ys (x ∷ remove ys place) moved)) in
    IsPermutation-trans _ _ _ (IsPermutation-cons x xs (remove ys place) rest) (IsPermutation-sym _ _ moved)
