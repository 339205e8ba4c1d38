-- What follows once the register is closed.
use Rattle.std.proofs.Common.{◌≡◌, ◌∙◌, ℕ, zero, suc, ◌≤◌, ◌<◌, inl, inr, Bool, true, min, ◌==◌, eq-eqb, List, [], ◌∷◌, length, get_or, refl, sym, subst, ap, arith}
use Rattle.std.specs.Prelude.{map}
use Rattle.std.specs.List.{All, Contains, filter}
use Rattle.std.proofs.lemmas.Bool.{cases_Bool}
use Rattle.std.proofs.lemmas.List.{get_or-map, length-map}
use Rattle.std.proofs.lemmas.List.Elements.{All-contains, All-head, All-tail, Contains-get_or}
use Rattle.vrp_model.specs.Cheapest.{cost_of}
use Rattle.vrp_sharing.specs.Caller.{CallerState, RegisterState}
use Rattle.vrp_sharing.specs.Costs.{IsHistoryOf, IsKnown, least_of}
use Rattle.vrp_sharing.specs.declared.view.Known.{Known}
use Rattle.vrp_sharing.specs.declared.view.Offer.{Offer}
use Rattle.vrp_sharing.proofs.LeastCosts.{falls}
use Rattle.vrp_solver.specs.SeatBoard.{least_seen}
use Rattle.vrp_answer.specs.Outcomes.{IsSearched, Search}
use Rattle.vrp_solver.specs.Inner.Workers.{AreBack, CostsNoLess}
use Rattle.vrp_solver.proofs.Teams.{offered_lower}
use Rattle.vrp_answer.specs.declared.outcome.Searched.{Searched}

-- no caller has seen less than the least of all costs
none_saw_less : (opening : ℕ) (callers : List CallerState) (history : List Offer) → IsHistoryOf opening (map (λ c. c.known) callers) history → All (λ caller. least_of opening history ≤ least_seen caller) callers
none_saw_less opening callers history is = λ k d lt.
    let long : k < length (map (λ (c : CallerState). c.known) callers) = omega (arith, lt, length-map callers (λ (c : CallerState). c.known)) in
    let known : IsKnown opening history (get_or callers k d).known = subst (IsKnown opening history) (get_or-map (λ (c : CallerState). c.known) callers k d d.known lt) (is.known k d.known long) in
    rw known.opens (falls opening history (get_or callers k d).known.seen known.seen)

-- what stands in a list and passes the test stands among those that pass it
stays : (p : Offer → Bool) (offers : List Offer) (offer : Offer) → p offer ≡ true → Contains offers offer → Contains (filter p offers) offer
stays p [] offer passes (place, lt, is) = absurd (omega (arith, lt))
stays p (o ∷ offers) offer passes (zero, lt, is) = let same : o ≡ offer = is in rw (sym same, same_passes) (0, omega arith, refl)
  where
    same_passes : p o ≡ true
    same_passes = rw is passes
stays p (o ∷ offers) offer passes (suc place, lt, is) =
    let rest : Contains (filter p offers) offer = stays p offers offer passes (place, omega (arith, lt), is) in
    elim (cases_Bool (p o)) [
      | inl kept ↦ rw kept (suc rest.0, omega (arith, rest.1), rest.2)
      | inr dropped ↦ rw dropped rest
    ]

-- each cost of the history was offered by one of the callers
offered_by_one : (opening cost : ℕ) (first : CallerState) (callers : List CallerState) (history : List Offer) → IsHistoryOf opening (map (λ c. c.known) callers) history → All (CostsNoLess cost) callers
    → (offer : Offer) → Contains history offer → Contains (map (λ (k : Known). k.number) (map (λ (c : CallerState). c.known) callers)) offer.caller → cost ≤ offer.cost
offered_by_one opening cost first callers history is all offer inside (place, within, number) =
    let knowns = map (λ (c : CallerState). c.known) callers in
    let caller = get_or callers place first in
    let many = length-map callers (λ (c : CallerState). c.known) in
    let here : place < length callers = omega (arith, within, length-map knowns (λ (k : Known). k.number), many) in
    let known : get_or knowns place first.known ≡ caller.known = get_or-map (λ (c : CallerState). c.known) callers place first first.known here in
    let own : offer.caller ≡ caller.known.number =
    sym number ∙ get_or-map (λ (k : Known). k.number) knowns place first.known offer.caller (omega (arith, here, many)) ∙ ap (λ (k : Known). k.number) known in
    let fact = subst (IsKnown opening history) known (is.known place first.known (omega (arith, here, many))) in
    let mine = subst (λ (offers : List Offer). Contains offers offer) fact.mine (stays (λ (o : Offer). o.caller == caller.known.number) history offer (eq-eqb offer.caller caller.known.number own) inside) in
    All-contains (λ (o : Offer). cost ≤ o.cost) caller.known.mine offer (all place first here) mine

none_offered_less : (opening cost : ℕ) (callers : List CallerState) (history : List Offer) → IsHistoryOf opening (map (λ c. c.known) callers) history → All (CostsNoLess cost) callers → All (λ offer. cost ≤ offer.cost) history
none_offered_less opening cost [] history is all = λ k d lt. (let (place, within, number) = is.no_other k d lt in absurd (omega (arith, within)))
none_offered_less opening cost (first ∷ callers) history is all = λ k d lt.
    offered_by_one opening cost first (first ∷ callers) history is all (get_or history k d) (Contains-get_or history k d lt) (is.no_other k d lt)

-- a cost that is no more than the opening cost and those that were offered is no more than the least of them
reached : (opening cost : ℕ) (history : List Offer) → cost ≤ opening → All (λ offer. cost ≤ offer.cost) history → cost ≤ least_of opening history
reached opening cost [] opens all = opens
reached opening cost (offer ∷ history) opens all =
    let here : cost ≤ offer.cost = All-head (λ (o : Offer). cost ≤ o.cost) offer history all in
    reached (min opening offer.cost) cost history (omega (arith, opens, here)) (All-tail (λ (o : Offer). cost ≤ o.cost) offer history all)

pub all_searched : (s : Search) (register : RegisterState) (callers : List CallerState) (searched : Searched) (history : List Offer) → AreBack s register callers searched → IsHistoryOf register.opening (map (λ c. c.known) callers) history
    → IsSearched s register.opening searched
all_searched s register callers searched history back is = record {
  least = least_of register.opening history;
  best_of = back.best_of;
  all = back.all;
  kept = back.kept (least_of register.opening history) (none_saw_less register.opening callers history is);
  reached = λ cost opens below.
      reached register.opening cost history opens (none_offered_less register.opening cost callers history is (offered_lower (cost_of searched.best) cost callers below back.offered));
}
