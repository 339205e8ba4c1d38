-- A problem with prices is symmetric where the problem is, and it is a relaxation of it.
use Rattle.std.proofs.Common.{◌≡◌, ℕ, ◌+◌, ◌*◌, ◌≤◌, ◌<◌, ◌↔◌, Bool, true, false, not, if◌then◌else◌, inl, inr, List, [], ◌∷◌, refl, sym, ap, subst, arith}
use Rattle.std.proofs.lemmas.Bool.{cases_lt}
use Rattle.std.proofs.lemmas.List.Sums.{sum_by-cons}
use Rattle.std.proofs.lemmas.Nat.{mul-le}
use Rattle.vrp_model.specs.Problem.{IsProblem, IsSymmetric, Problem, place_count, weight_of}
use Rattle.vrp_model.specs.Word.{stands_in}
use Rattle.vrp_model.proofs.UnservedCustomers.{nat_same}
use Rattle.vrp_bound_prices.specs.CapacityCut.{CapacityCut, crosses, cut_prices_of}
use Rattle.vrp_bound_prices.specs.Priced.{HasPrices, IsPriced, charges_of, rewards_of}
use Rattle.vrp_bound_prices.specs.Relaxation.{IsRelaxation}
use Rattle.vrp_bound_prices.proofs.PricedWords.{cost_with_prices, cut_prices_paid}
use Rattle.vrp_bound_prices.proofs.Rounded.{prefix_rounded, lawful_rounded}

-- ---- there and back

crossed_back : (from to : Bool) → (if from then not to else to) ≡ (if to then not from else from)
crossed_back true true = refl
crossed_back true false = refl
crossed_back false true = refl
crossed_back false false = refl

cut_prices_back : (cuts : List CapacityCut) (from to : ℕ) → cut_prices_of cuts from to ≡ cut_prices_of cuts to from
cut_prices_back [] from to = refl
cut_prices_back (cut ∷ cuts) from to =
    let here : (if crosses cut.inside from to then cut.cut_price else 0) ≡ (if crosses cut.inside to from then cut.cut_price else 0) = ap (λ b. if b then cut.cut_price else 0) (crossed_back (stands_in cut.inside from) (stands_in cut.inside to)) in
    let there = sum_by-cons (λ (c : CapacityCut). if crosses c.inside from to then c.cut_price else 0) cut cuts in
    let back = sum_by-cons (λ (c : CapacityCut). if crosses c.inside to from then c.cut_price else 0) cut cuts in
    omega (arith, here, cut_prices_back cuts from to, there, back)

no_less : (scale one other : ℕ) → 1 ≤ scale → scale * one ≤ scale * other → one ≤ other
no_less scale one other some less = elim (cases_lt other one) [
  | inl above ↦ absurd (
      let parts : scale * (other + 1) ≡ scale * other + scale = omega arith in
      omega (arith, mul-le scale (other + 1) scale one (omega arith) (omega (arith, above)), parts, less, some))
  | inr within ↦ within
]

same_when_scaled : (scale one other : ℕ) → 1 ≤ scale → scale * one ≡ scale * other → one ≡ other
same_when_scaled scale one other some same = omega (arith, no_less scale one other some (omega (arith, same)), no_less scale other one some (omega (arith, same)))

pub symmetric_alike : (p q : Problem) (scale : ℕ) (price rebate : ℕ → ℕ) (cuts : List CapacityCut) → place_count q ≡ place_count p → HasPrices p q scale price rebate cuts → IsSymmetric p ↔ IsSymmetric q
symmetric_alike p q scale price rebate cuts places has = (
  λ symmetric. λ from to here there. elim (nat_same from to) [
    | inl same ↦ subst (λ k. weight_of q from k ≡ weight_of q k from) same refl
    | inr differs ↦
        let from_place : from < place_count p = omega (arith, here, places) in
        let to_place : to < place_count p = omega (arith, there, places) in
        let forth = has.weights from to from_place to_place differs in
        let back = has.weights to from to_place from_place (λ same. differs (sym same)) in
        let scaled : scale * weight_of p from to ≡ scale * weight_of p to from = ap (λ n. scale * n) (symmetric from to from_place to_place) in
        omega (arith, forth, back, scaled, cut_prices_back cuts from to)
  ],
  λ symmetric. λ from to here there. elim (nat_same from to) [
    | inl same ↦ subst (λ k. weight_of p from k ≡ weight_of p k from) same refl
    | inr differs ↦
        let forth = has.weights from to here there differs in
        let back = has.weights to from there here (λ same. differs (sym same)) in
        let priced : weight_of q from to ≡ weight_of q to from = symmetric from to (omega (arith, here, places)) (omega (arith, there, places)) in
        same_when_scaled scale (weight_of p from to) (weight_of p to from) has.some (omega (arith, forth, back, priced, cut_prices_back cuts from to))
  ],
)

-- ---- the relaxation

pub priced_relaxation : (p q : Problem) (unit scale : ℕ) (price rebate : ℕ → ℕ) (cuts : List CapacityCut) → IsProblem p → IsPriced p q unit scale price rebate cuts → IsRelaxation p q scale (charges_of p price) (rewards_of p rebate cuts)
priced_relaxation p q unit scale price rebate cuts problem is =
    let symmetric = (symmetric_alike p q scale price rebate cuts is.rounded.same_places is.priced).1 in
    record {
      same_places = is.rounded.same_places;
      same_trucks = is.rounded.same_trucks;
      prefixes = λ prefix prefix_is. prefix_rounded p q unit prefix is.rounded symmetric prefix_is;
      lawful = λ word lawful. lawful_rounded p q unit word is.rounded symmetric lawful;
      cheaper = λ word lawful. omega (arith, cost_with_prices p q scale price rebate cuts word problem is.priced lawful, cut_prices_paid p cuts word problem lawful is.priced.each);
    }
