-- The least of an opening cost and the costs of a history.
use Rattle.std.proofs.Common.{◌≡◌, ℕ, zero, suc, ◌≤◌, min, List, [], ◌∷◌, ◌++◌, map, refl, sym, subst, ◌∙◌, inl, inr, ◌⊎◌, arith}
use Rattle.std.specs.List.{All, Contains}
use Rattle.std.proofs.lemmas.List.Elements.{All-cons, All-head, All-nil, All-tail}
use Rattle.vrp_model.proofs.Ordered.{three_cases}
use Rattle.vrp_sharing.specs.Costs.{StartsWith, least_of}
use Rattle.vrp_sharing.specs.declared.view.Offer.{Offer}

one_of_two : (j k : ℕ) → (min j k ≡ j) ⊎ (min j k ≡ k)
one_of_two j k =
    elim (three_cases j k) [
      | inl less ↦ inl (omega (arith, less))
      | inr (inl same) ↦ inl (omega (arith, same))
      | inr (inr more) ↦ inr (omega (arith, more))
    ]

-- what stands behind the lesser of two stands behind both
behind_both : (j k found : ℕ) (costs : List ℕ) → Contains (min j k ∷ costs) found → Contains (j ∷ k ∷ costs) found
behind_both j k found costs (zero, lt, is) =
    elim (one_of_two j k) [
      | inl first ↦ (0, omega arith, sym first ∙ is)
      | inr second ↦ (1, omega arith, sym second ∙ is)
    ]
behind_both j k found costs (suc place, lt, is) = (suc (suc place), omega (arith, lt), is)

pub least_stands : (opening : ℕ) (history : List Offer) → Contains (opening ∷ map (λ (o : Offer). o.cost) history) (least_of opening history)
least_stands opening [] = (0, omega arith, refl)
least_stands opening (offer ∷ history) = behind_both opening offer.cost (least_of (min opening offer.cost) history) (map (λ (o : Offer). o.cost) history) (least_stands (min opening offer.cost) history)

pub least_of_all : (opening : ℕ) (history : List Offer) → All (λ cost. least_of opening history ≤ cost) (opening ∷ map (λ (o : Offer). o.cost) history)
least_of_all opening [] = All-cons (λ cost. opening ≤ cost) opening [] (omega arith) (All-nil (λ cost. opening ≤ cost))
least_of_all opening (offer ∷ history) =
    let least = least_of (min opening offer.cost) history in
    let costs = map (λ (o : Offer). o.cost) history in
    let rest = least_of_all (min opening offer.cost) history in
    let here : least ≤ min opening offer.cost = All-head (λ cost. least ≤ cost) (min opening offer.cost) costs rest in
    All-cons (λ cost. least ≤ cost) opening (offer.cost ∷ costs) (omega (arith, here)) (All-cons (λ cost. least ≤ cost) offer.cost costs (omega (arith, here)) (All-tail (λ cost. least ≤ cost) (min opening offer.cost) costs rest))

falls_behind : (opening : ℕ) (seen rest : List Offer) → least_of opening (seen ++ rest) ≤ least_of opening seen
falls_behind opening [] rest = All-head (λ cost. least_of opening rest ≤ cost) opening (map (λ (o : Offer). o.cost) rest) (least_of_all opening rest)
falls_behind opening (offer ∷ seen) rest = falls_behind (min opening offer.cost) seen rest

pub falls : (opening : ℕ) (history seen : List Offer) → StartsWith history seen → least_of opening history ≤ least_of opening seen
falls opening history seen (rest, is) = subst (λ (whole : List Offer). least_of opening whole ≤ least_of opening seen) (sym is) (falls_behind opening seen rest)
