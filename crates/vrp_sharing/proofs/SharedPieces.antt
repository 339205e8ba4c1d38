-- What is known of the pieces where all drawers are at hand.
use Rattle.std.proofs.Common.{◌≡◌, ◌∙◌, ℕ, ◌<◌, ◌⊎◌, List, [], ◌++◌, length, map, get_or, sym, ap, subst, ⊎_elim, arith, length-append}
use Rattle.std.specs.List.{Contains}
use Rattle.std.specs.List.Sorted.{IsPermutation}
use Rattle.std.proofs.lemmas.Bool.{cases_order}
use Rattle.std.proofs.lemmas.List.{append-nil, length-map, get_or-map, get_or_append_left}
use Rattle.std.proofs.lemmas.List.Sorted.{Contains-permutation, IsPermutation-map, length_permutation}
use Rattle.vrp_model.proofs.DistinctLists.{AreDistinct, AreDistinct-permutation}
use Rattle.vrp_search_tree.specs.Cutting.{AreNumbered, NumberedWord}
use Rattle.vrp_sharing.specs.Pile.{AreShared}

-- where nothing is left, each piece that was put on the pile was drawn
pub all_drawn : (drawn put : List NumberedWord) (piece : NumberedWord) → AreShared drawn [] put → Contains put piece → Contains drawn piece
all_drawn drawn put piece shared inside = Contains-permutation put drawn piece (subst (IsPermutation put) (append-nil drawn) shared) inside

-- and nothing else is left of it
pub none_left : (drawn left put : List NumberedWord) → AreShared drawn [] put → AreShared drawn left put → length left ≡ 0
none_left drawn left put all shared = omega (arith, length_permutation put (drawn ++ []) all, length_permutation put (drawn ++ left) shared, length-append drawn [], length-append drawn left)

abbrev number_of : NumberedWord → ℕ
number_of piece = piece.number

number_at : (pieces : List NumberedWord) → AreNumbered pieces → (k d : ℕ) → k < length pieces → get_or (map number_of pieces) k d ≡ k
number_at pieces numbered k d within =
    let other : NumberedWord = record { number = 0; word = [] } in
    get_or-map number_of pieces k other d within ∙ numbered k other within

numbers_differ : (pieces : List NumberedWord) → AreNumbered pieces → AreDistinct (map number_of pieces)
numbers_differ pieces numbered i j d before within same =
    let long = length-map pieces number_of in
    let inside : j < length pieces = omega (arith, long, within) in
    omega (arith, before, same, number_at pieces numbered i d (omega (arith, before, inside)), number_at pieces numbered j d inside)

-- no number was drawn twice
pub drawn_once : (drawn left put : List NumberedWord) → AreNumbered put → AreShared drawn left put
    → (i j : ℕ) (d : NumberedWord) → i < length drawn → j < length drawn → (get_or drawn i d).number ≡ (get_or drawn j d).number → i ≡ j
drawn_once drawn left put numbered shared i j d at within same =
    let all = drawn ++ left in
    let apart : AreDistinct (map number_of all) = AreDistinct-permutation (map number_of put) (map number_of all) (IsPermutation-map number_of put all shared) (numbers_differ put numbered) in
    let reads : (k : ℕ) → k < length drawn → get_or (map number_of all) k 0 ≡ (get_or drawn k d).number = λ k lt.
    get_or-map number_of all k d 0 (omega (arith, lt, length-append drawn left)) ∙ ap number_of (get_or_append_left drawn left d k lt) in
    let long = length-map all number_of in
    let both : get_or (map number_of all) i 0 ≡ get_or (map number_of all) j 0 = reads i at ∙ same ∙ sym (reads j within) in
    ⊎_elim (λ (e : i ≡ j). e)
    (λ (differ : (i < j) ⊎ (j < i)). ⊎_elim
    (λ (lt : i < j). absurd (apart i j 0 lt (omega (arith, within, long, length-append drawn left)) both))
    (λ (gt : j < i). absurd (apart j i 0 gt (omega (arith, at, long, length-append drawn left)) (sym both)))
    differ)
    (cases_order i j)
