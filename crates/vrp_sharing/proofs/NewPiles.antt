-- A new pile with one thief more.
use Rattle.std.proofs.Common.{◌≡◌, ◌∙◌, ◌+◌, ◌-◌, ◌<◌, ℕ, List, [], ◌∷◌, ◌++◌, map, ap, subst, sym, arith, length-append}
use Rattle.std.specs.List.{All}
use Rattle.std.proofs.lemmas.List.Elements.{All-push}
use Rattle.vrp_search_tree.specs.Cutting.{AreNumbered, NumberedWord}
use Rattle.vrp_sharing.specs.Pile.{DrawerState, IsNewPile, IsNewThief}

pub one_thief_more : (words : List (List ℕ)) (count : ℕ) (owner after : DrawerState) (made all : List DrawerState) (thief : DrawerState) → 1 < owner.parts
    → after ≡ record { pile = owner.pile; parts = owner.parts - 1; put = owner.put; drawn = owner.drawn } → IsNewThief owner thief → all ≡ made ++ thief ∷ []
    → IsNewPile words count owner made → IsNewPile words (count + 1) after all
one_thief_more words count owner after made all thief two is new_thief pushed new =
    let put : after.put ≡ owner.put = ap (λ (s : DrawerState). s.put) is in
    let parts : after.parts ≡ owner.parts - 1 = ap (λ (s : DrawerState). s.parts) is in
    subst (IsNewPile words (count + 1) after) (sym pushed)
    (record {
      pieces = ap (λ (l : List NumberedWord). map (λ piece. piece.word) l) put ∙ new.pieces;
      numbers = subst AreNumbered (sym put) new.numbers;
      nothing = ap (λ (s : DrawerState). s.drawn) is ∙ new.nothing;
      rest = omega (arith, parts, new.rest, two);
      many = omega (arith, new.many, length-append made (thief ∷ []));
      each = subst (λ (s : DrawerState). All (IsNewThief s) (made ++ thief ∷ [])) (sym is) (All-push (IsNewThief owner) made thief new.each new_thief);
    })
