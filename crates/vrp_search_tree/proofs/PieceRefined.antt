-- A piece of a cutting, and the cutting with its children in its stead.
use Rattle.std.proofs.Common.{◌≡◌, ℕ, ◌+◌, ◌<◌, true, List, [], ◌∷◌, ◌++◌, length, get_or, refl, sym, ap, subst, ◌∙◌, ◌≤◌, length-append, arith, add-one, drop-cons, length-drop, ◌-◌}
use Rattle.std.specs.Prelude.{map, drop, take}
use Rattle.std.proofs.lemmas.List.{drop-map, get_or-map, take-append-drop, take-map, take_all, length-map, length-take-le}
use Rattle.vrp_model.specs.Problem.{Problem}
use Rattle.vrp_model.specs.Word.{IsPrefix}
use Rattle.vrp_model.specs.declared.limits.TheConstants.{MAX_NODES}
use Rattle.vrp_search_tree.specs.Child.{AreChildren}
use Rattle.vrp_search_tree.specs.Cutting.{IsCutting, IsRefined, NumberedWord}
use Rattle.vrp_search_tree.specs.Inner.Pass.{AreAdded}
use Rattle.vrp_search_tree.proofs.CuttingReplaced.{children_instead, prefix_between}
use Rattle.vrp_search_tree.proofs.ChildrenListed.{some_added}

-- the piece at an index, in front of those behind it
pub pieces_from : (pieces : List NumberedWord) (prefixes : List (List ℕ)) (i : ℕ) (piece : NumberedWord) → map (λ x. x.word) pieces ≡ prefixes → i < length pieces → piece ≡ get_or pieces i piece
    → drop i prefixes ≡ piece.word ∷ drop (i + 1) prefixes
pieces_from pieces prefixes i piece are lt is =
    let long : length prefixes ≡ length pieces = ap length (sym are) ∙ length-map pieces (λ x. x.word) in
    let here : get_or prefixes i [] ≡ piece.word = ap (λ (xs : List (List ℕ)). get_or xs i []) (sym are) ∙ get_or-map (λ x. x.word) pieces i piece [] lt ∙ ap (λ (x : NumberedWord). x.word) (sym is) in
    rw (drop-cons prefixes i [] (omega (arith, lt, long)), here, add-one) refl

pub piece_at : (p : Problem) (i : ℕ) (old : List (List ℕ)) (pieces : List NumberedWord) (piece : NumberedWord) → map (λ x. x.word) pieces ≡ old → i < length old → piece ≡ get_or pieces i piece
    → (old ≡ take i old ++ piece.word ∷ drop (i + 1) old) × (get_or old i [] ≡ piece.word)
piece_at p i old pieces piece are lt is =
    let long : length old ≡ length pieces = ap length (sym are) ∙ length-map pieces (λ x. x.word) in
    let from : drop i old ≡ piece.word ∷ drop (i + 1) old = pieces_from pieces old i piece are (omega (arith, lt, long)) is in (
      sym (take-append-drop i old) ∙ ap (λ (xs : List (List ℕ)). take i old ++ xs) from,
      ap (λ (xs : List (List ℕ)). get_or xs 0 []) (sym (drop-cons old i [] lt)) ∙ ap (λ (xs : List (List ℕ)). get_or xs 0 []) from,
    )

pub piece_prefix : (p : Problem) (i : ℕ) (old : List (List ℕ)) (pieces : List NumberedWord) (piece : NumberedWord) → IsCutting p old → map (λ x. x.word) pieces ≡ old → i < length old → piece ≡ get_or pieces i piece → IsPrefix p piece.word
piece_prefix p i old pieces piece cut are lt is =
    let at = piece_at p i old pieces piece are lt is in
    prefix_between p (take i old) (drop (i + 1) old) piece.word (subst (IsCutting p) at.0 cut)

pub piece_refined : (p : Problem) (i : ℕ) (old before more new : List (List ℕ)) (pieces : List NumberedWord) (piece : NumberedWord)
    → IsCutting p old → map (λ x. x.word) pieces ≡ old → i < length old → piece ≡ get_or pieces i piece
    → before ≡ map (λ x. x.word) (take i pieces) → AreAdded p piece.word before more → length before < length more → new ≡ more ++ map (λ x. x.word) (take (length pieces - (i + 1)) (drop (i + 1) pieces))
    → IsRefined p i old true new × IsCutting p new
piece_refined p i old before more new pieces piece cut are lt is first added longer last =
    let at = piece_at p i old pieces piece are lt is in
    let left : before ≡ take i old = first ∙ sym (take-map (λ x. x.word) i pieces) ∙ ap (take i) are in
    let behind = take (length pieces - (i + 1)) (drop (i + 1) pieces) in
    let right : map (λ x. x.word) behind ≡ drop (i + 1) old = ap (map (λ x. x.word)) (take_all (length pieces - (i + 1)) (drop (i + 1) pieces) (omega (arith, length-drop (i + 1) pieces))) ∙ sym (drop-map (λ x. x.word) (i + 1) pieces) ∙ ap (drop (i + 1)) are in
    let children = added.children in
    let whole : new ≡ (take i old ++ children) ++ drop (i + 1) old = last ∙ ap (λ (xs : List (List ℕ)). xs ++ map (λ x. x.word) behind) (added.behind ∙ ap (λ (xs : List (List ℕ)). xs ++ children) left) ∙ ap (λ (xs : List (List ℕ)). (take i old ++ children) ++ xs) right in
    let some = some_added p piece.word before more added longer in (
      (children, subst (λ (w : List ℕ). AreChildren p w children) (sym at.1) added.are, some, whole),
      subst (IsCutting p) (sym whole) (children_instead p (take i old) (drop (i + 1) old) piece.word children (subst (IsCutting p) at.0 cut) added.are some),
    )

-- there are no more children than nodes
pub piece_refined_few : (p : Problem) (i : ℕ) (prefix : List ℕ) (old before more new : List (List ℕ)) (pieces : List NumberedWord) → map (λ x. x.word) pieces ≡ old → i < length old
    → before ≡ map (λ x. x.word) (take i pieces) → AreAdded p prefix before more → new ≡ more ++ map (λ x. x.word) (take (length pieces - (i + 1)) (drop (i + 1) pieces)) → length new ≤ length old + (MAX_NODES - 1)
piece_refined_few p i prefix old before more new pieces are lt first added last =
    let behind = take (length pieces - (i + 1)) (drop (i + 1) pieces) in
    let many : length old ≡ length pieces = ap length (sym are) ∙ length-map pieces (λ x. x.word) in
    let start : length before ≡ i = ap length first ∙ length-map (take i pieces) (λ x. x.word) ∙ length-take-le i pieces (omega (arith, lt, many)) in
    let middle : length more ≡ length before + length added.children = ap length added.behind ∙ length-append before added.children in
    let end : length behind ≡ length pieces - (i + 1) = length-take-le (length pieces - (i + 1)) (drop (i + 1) pieces) (omega (arith, length-drop (i + 1) pieces)) in
    let whole : length new ≡ length more + length behind = ap length last ∙ length-append more (map (λ x. x.word) behind) ∙ ap (λ n. length more + n) (length-map behind (λ x. x.word)) in
    let few = added.few in
    omega (arith, many, start, middle, end, whole, few, lt)
