-- Demands in units, entered one by one; none is above what one truck can carry.
use Rattle.std.proofs.Common.{◌≡◌, ℕ, zero, suc, ◌/◌, ◌≤◌, ◌<◌, true, false, nat_lt, inl, inr, List, [], ◌∷◌, ◌++◌, length, refl, sym, ap, subst, ◌∙◌, arith}
use Rattle.std.specs.Prelude.{slice_index}
use Rattle.std.specs.List.{All, Contains, sum_by}
use Rattle.std.proofs.lemmas.Bool.{cases_lt}
use Rattle.std.proofs.lemmas.Bool.Decides.{nat_tests}
use Rattle.std.proofs.lemmas.List.{get_or_append_left, get_or_past, get_or_push, length_push}
use Rattle.std.proofs.lemmas.List.Elements.{All-contains_itself}
use Rattle.std.proofs.lemmas.List.Sums.{sum_by-cons}
use Rattle.std.proofs.lemmas.Nat.{div-mul-add}
use Rattle.vrp_model.specs.Problem.{IsProblem, Problem, customers, demand_of, place_count}
use Rattle.vrp_model.proofs.CustomerPlaces.{customer_below, customer_is_some, is_customer}
use Rattle.vrp_bound.proofs.WholeUnits.{units_rise, units_within}
use Rattle.vrp_bound_prices.specs.Units.{light_one, rounded_capacity, units_of}

-- what each customer demands in units, so far
abbrev pub AreInUnits : Problem → ℕ → List ℕ → Type 0
AreInUnits p unit demands = (k : ℕ) → 0 < k → k < length demands → slice_index demands k ≡ units_of unit (demand_of p k)

pub units_more : (p : Problem) (unit : ℕ) (demands : List ℕ) (customer units : ℕ) → length demands ≡ customer → units ≡ units_of unit (demand_of p customer) → AreInUnits p unit demands → AreInUnits p unit (demands ++ units ∷ [])
units_more p unit demands customer units count is so_far = λ k above lt. elim (cases_lt k (length demands)) [
  | inl before ↦ get_or_append_left demands (units ∷ []) 0 k before ∙ so_far k above before
  | inr last ↦
      let same : k ≡ customer = omega (arith, length_push demands units, lt, last, count) in
      get_or_push demands units 0 k (omega (arith, same, count)) ∙ is ∙ subst (λ n. units_of unit (demand_of p customer) ≡ units_of unit (demand_of p n)) (sym same) refl
]

pub depot_stays : (demands : List ℕ) (units : ℕ) → 0 < length demands → slice_index demands 0 ≡ 0 → slice_index (demands ++ units ∷ []) 0 ≡ 0
depot_stays demands units some empty = get_or_append_left demands (units ∷ []) 0 0 some ∙ empty

pub all_in_units : (p : Problem) (unit : ℕ) (demands : List ℕ) → length demands ≡ place_count p → AreInUnits p unit demands → All (λ customer. slice_index demands customer ≡ units_of unit (demand_of p customer)) (customers p)
all_in_units p unit demands count are = λ i d lt.
    let is = All-contains_itself (customers p) i d lt in
    are _ (customer_is_some p _ is) (omega (arith, customer_below p _ is, count))

-- what one element counts is no more than what all do
member_counts : (f : ℕ → ℕ) (xs : List ℕ) (x : ℕ) → Contains xs x → f x ≤ sum_by f xs
member_counts f [] x (i, lt, is) = absurd (omega (arith, lt))
member_counts f (y ∷ ys) x (zero, lt, is) = let same : f y ≡ f x = ap f is in omega (arith, same, sum_by-cons f y ys)
member_counts f (y ∷ ys) x (suc i, lt, is) = omega (arith, member_counts f ys x (i, omega (arith, lt), is), sum_by-cons f y ys)

pub light_is_one : (p : Problem) (unit customer : ℕ) → demand_of p customer < unit → light_one p unit customer ≡ 1
light_is_one p unit customer light = let test : nat_lt (demand_of p customer) unit ≡ true = grind (arith, nat_tests) in rw test refl

pub heavy_is_none : (p : Problem) (unit customer : ℕ) → unit ≤ demand_of p customer → light_one p unit customer ≡ 0
heavy_is_none p unit customer heavy = let test : nat_lt (demand_of p customer) unit ≡ false = grind (arith, nat_tests) in rw test refl

-- a light customer is counted in what one truck can carry
units_fit : (p : Problem) (unit customer : ℕ) → 1 ≤ unit → IsProblem p → Contains (customers p) customer → units_of unit (demand_of p customer) ≤ rounded_capacity p unit
units_fit p unit customer some problem is =
    let rises = units_rise unit (demand_of p customer) p.capacity some (problem.fitting_demands customer) in
    elim (cases_lt (demand_of p customer) unit) [
      | inl light ↦
          let one = light_is_one p unit customer light in
          let counted = member_counts (light_one p unit) (customers p) customer is in
          let none : demand_of p customer / unit ≡ 0 = subst (λ n. n / unit ≡ 0) (omega arith) (div-mul-add 0 unit (demand_of p customer) light) in
          omega (arith, none, one, counted)
      | inr heavy ↦ omega (arith, rises, units_within unit 1 (demand_of p customer) some (omega (arith, heavy)))
    ]

pub demands_fit : (p : Problem) (unit : ℕ) (demands : List ℕ) → 1 ≤ unit → IsProblem p → length demands ≡ place_count p → slice_index demands 0 ≡ 0 → AreInUnits p unit demands → (place : ℕ) → slice_index demands place ≤ rounded_capacity p unit
demands_fit p unit demands some problem count empty are zero = omega (arith, empty)
demands_fit p unit demands some problem count empty are (suc k) = elim (cases_lt (suc k) (length demands)) [
  | inl within ↦ omega (arith, are (suc k) (omega arith) within, units_fit p unit (suc k) some problem (is_customer p (suc k) (omega arith) (omega (arith, within, count))))
  | inr past ↦ omega (arith, get_or_past demands (suc k) 0 past)
]
