-- Entry rows that each feasible plan obeys.
use Rattle.std.proofs.Common.{◌≡◌, inl, inr, ℕ, zero, suc, ◌+◌, ◌-◌, ◌*◌, ◌<◌, ◌≤◌, Option, Some, None, List, [], ◌∷◌, ◌++◌, length, refl, arith}
use Rattle.std.specs.Int.{bit_at}
use Rattle.std.specs.List.{All, concat, sum_by}
use Rattle.std.specs.Option.{ForSome, IsSomeAnd}
use Rattle.std.proofs.Math.Nat.{mul-le-mul_right, one-mul, zero-mul}
use Rattle.std.proofs.lemmas.Bool.{cases_lt}
use Rattle.std.proofs.lemmas.List.Elements.{All-head, All-tail}
use Rattle.std.proofs.lemmas.List.Sorted.{sum_by-IsPermutation}
use Rattle.std.proofs.lemmas.List.Sums.{sum_by-append, sum_by-cons}
use Rattle.std.proofs.lemmas.Nat.Bits.{bit_at-lt}
use Rattle.vrp_model.specs.Problem.{Problem, customers, demand_of}
use Rattle.vrp_model.specs.Route.{IsLawful, load_of}
use Rattle.vrp_duals.specs.Duals.{HasAllCustomers, IsNeeded, IsNeededByDemand, IsNeededByTrucks, IsNeededFor, Obeys, entries_along, plan_entries, route_entries, set_demand}
use Rattle.vrp_duals.specs.declared.rows.EntryRow.{EntryRow}

-- what the stops inside a set demand
abbrev demand_inside : Problem → ℕ → List ℕ → ℕ
demand_inside p set stops = sum_by (λ customer. bit_at set customer * demand_of p customer) stops

-- how many of the stops are outside
abbrev outside : ℕ → List ℕ → ℕ
outside set stops = sum_by (λ customer. 1 - bit_at set customer) stops

-- a sum over the stops of all routes is the sum of those of each
by_routes : (f : ℕ → ℕ) (routes : List (List ℕ)) → sum_by (λ route. sum_by f route) routes ≡ sum_by f (concat routes)
by_routes f [] = refl
by_routes f (route ∷ routes) = omega (arith, sum_by-cons (λ route. sum_by f route) route routes, sum_by-append f route (concat routes), by_routes f routes)

-- ---- by demand

-- who never enters a set serves none of it
not_entered : (p : Problem) (set at : ℕ) (stops : List ℕ) → bit_at set at ≡ 0 → entries_along set at (stops ++ 0 ∷ []) ≡ 0 → demand_inside p set stops ≡ 0
not_entered p set at [] away none = refl
not_entered p set at (stop ∷ stops) away none =
    let here : bit_at set stop ≡ 0 = first (bit_at set at) (bit_at set stop) (entries_along set stop (stops ++ 0 ∷ [])) away none in
    let rest = not_entered p set stop stops here (second (bit_at set at) (bit_at set stop) (entries_along set stop (stops ++ 0 ∷ [])) none) in
    sum (bit_at set stop) (demand_of p stop) (demand_inside p set stops) (sum_by-cons (λ customer. bit_at set customer * demand_of p customer) stop stops) here rest
  where
    first : (a b n : ℕ) → a ≡ 0 → (b - a) + n ≡ 0 → b ≡ 0
    first a b n e f = omega arith

    second : (a b n : ℕ) → (b - a) + n ≡ 0 → n ≡ 0
    second a b n f = omega arith

    sum : (b w n : ℕ) {k : ℕ} → k ≡ b * w + n → b ≡ 0 → n ≡ 0 → k ≡ 0
    sum b w n e zero_bit none = rw (e, zero_bit, none) (omega (arith, zero-mul w))

carried : (n d capacity : ℕ) → (n ≡ 0 → d ≡ 0) → d ≤ capacity → d ≤ n * capacity
carried zero d capacity none le = omega (arith, none refl)
carried (suc n) d capacity none le = omega arith

inside_at_most : (p : Problem) (set : ℕ) (stops : List ℕ) → demand_inside p set stops ≤ load_of p stops
inside_at_most p set [] = omega arith
inside_at_most p set (stop ∷ stops) =
    omega (arith, sum_by-cons (λ customer. bit_at set customer * demand_of p customer) stop stops, sum_by-cons (demand_of p) stop stops, inside_at_most p set stops, part (bit_at set stop) (demand_of p stop) (bit_at-lt set stop))
  where
    part : (b w : ℕ) → b < 2 → b * w ≤ w
    part b w lt = let le : b ≤ 1 = omega arith in omega (arith, mul-le-mul_right w le, one-mul w)

entered_enough : (p : Problem) (set : ℕ) (routes : List (List ℕ)) → bit_at set 0 ≡ 0 → All (λ route. load_of p route ≤ p.capacity) routes → sum_by (demand_inside p set) routes ≤ plan_entries set routes * p.capacity
entered_enough p set [] away fits = omega arith
entered_enough p set (route ∷ routes) away fits =
    let here = carried (route_entries set route) (demand_inside p set route) p.capacity (not_entered p set 0 route away) (omega (arith, inside_at_most p set route, All-head (λ (route : List ℕ). load_of p route ≤ p.capacity) route routes fits)) in
    let rest = entered_enough p set routes away (All-tail (λ (route : List ℕ). load_of p route ≤ p.capacity) route routes fits) in
    both (route_entries set route) (plan_entries set routes) p.capacity (sum_by-cons (route_entries set) route routes) (sum_by-cons (demand_inside p set) route routes) here rest
  where
    both : (n m c : ℕ) {k s a b : ℕ} → k ≡ n + m → s ≡ a + b → a ≤ n * c → b ≤ m * c → s ≤ k * c
    both n m c e f le more = rw e (omega arith)

obeyed_by_demand : (p : Problem) (row : EntryRow) (routes : List (List ℕ)) → IsNeededByDemand p row → IsLawful p routes → row.count ≤ plan_entries row.customers routes
obeyed_by_demand p row routes needed lawful =
    let all = entered_enough p row.customers routes needed.depot lawful.fits in
    let same : sum_by (demand_inside p row.customers) routes ≡ set_demand p row.customers =
    omega (arith, by_routes (λ customer. bit_at row.customers customer * demand_of p customer) routes, sum_by-IsPermutation (λ customer. bit_at row.customers customer * demand_of p customer) (concat routes) (customers p) lawful.served) in
    enough row.count (plan_entries row.customers routes) p.capacity (set_demand p row.customers) (omega arith) needed.demand
  where
    enough : (count entries capacity demand : ℕ) → demand ≤ entries * capacity → count * capacity < demand + capacity → count ≤ entries
    enough count entries capacity demand le lt = elim (cases_lt entries count) [
      | inl more ↦ absurd (let over : entries + 1 ≤ count = omega arith in omega (arith, mul-le-mul_right capacity over))
      | inr few ↦ few
    ]

-- ---- by trucks

-- who is inside stays inside, up to the depot
stays_inside : (set at : ℕ) (stops : List ℕ) → bit_at set at ≡ 1 → outside set stops ≡ 0 → entries_along set at (stops ++ 0 ∷ []) ≡ 0
stays_inside set at [] inside none = omega (arith, bit_at-lt set 0)
stays_inside set at (stop ∷ stops) inside none =
    let split = sum_by-cons (λ customer. 1 - bit_at set customer) stop stops in
    let here : bit_at set stop ≡ 1 = omega (arith, bit_at-lt set stop) in
    omega (arith, stays_inside set stop stops here (omega arith))

entered_once : (set : ℕ) (route : List ℕ) → outside set route ≡ 0 → route_entries set route ≤ 1
entered_once set [] none = omega arith
entered_once set (stop ∷ stops) none =
    let split = sum_by-cons (λ customer. 1 - bit_at set customer) stop stops in
    let here : bit_at set stop ≡ 1 = omega (arith, bit_at-lt set stop) in
    omega (arith, stays_inside set stop stops here (omega arith))

entered_by_each : (set : ℕ) (routes : List (List ℕ)) → sum_by (outside set) routes ≡ 0 → plan_entries set routes ≤ length routes
entered_by_each set [] none = omega arith
entered_by_each set (route ∷ routes) none =
    let split = sum_by-cons (outside set) route routes in
    omega (arith, sum_by-cons (route_entries set) route routes, entered_once set route (omega arith), entered_by_each set routes (omega arith))

none_outside : (set : ℕ) (stops : List ℕ) → All (λ customer. bit_at set customer ≡ 1) stops → outside set stops ≡ 0
none_outside set [] whole = refl
none_outside set (stop ∷ stops) whole =
    omega (arith, sum_by-cons (λ customer. 1 - bit_at set customer) stop stops, All-head (λ customer. bit_at set customer ≡ 1) stop stops whole, none_outside set stops (All-tail (λ customer. bit_at set customer ≡ 1) stop stops whole))

few_trucks : (trucks : Option ℕ) (routes count : ℕ) → ForSome trucks (λ limit. routes ≤ limit) → IsSomeAnd trucks (λ limit. limit ≤ count) → routes ≤ count
few_trucks None routes count has needed = absurd needed
few_trucks (Some limit) routes count has needed = omega (arith, has limit refl, needed)

obeyed_by_trucks : (p : Problem) (row : EntryRow) (routes : List (List ℕ)) → IsNeededByTrucks p row → IsLawful p routes → plan_entries row.customers routes ≤ row.count
obeyed_by_trucks p row routes needed lawful =
    let none : sum_by (outside row.customers) routes ≡ 0 =
    omega (arith, by_routes (λ customer. 1 - bit_at row.customers customer) routes, sum_by-IsPermutation (λ customer. 1 - bit_at row.customers customer) (concat routes) (customers p) lawful.served, none_outside row.customers (customers p) needed.whole) in
    omega (arith, entered_by_each row.customers routes none, few_trucks p.trucks (length routes) row.count lawful.few needed.trucks)

pub obeyed : (p : Problem) (row : EntryRow) (routes : List (List ℕ)) → IsNeeded p row → IsLawful p routes → Obeys routes row
obeyed p row routes (inl needed) lawful = inl (needed.price, obeyed_by_demand p row routes needed lawful)
obeyed p row routes (inr needed) lawful = inr (needed.price, obeyed_by_trucks p row routes needed lawful)

-- ---- by the number of routes

-- a route of customers enters the set of all customers
entered_by_one : (set : ℕ) (route : List ℕ) → bit_at set 0 ≡ 0 → (route ≡ [] → ⊥) → outside set route ≡ 0 → 1 ≤ route_entries set route
entered_by_one set [] away some none = absurd (some refl)
entered_by_one set (stop ∷ stops) away some none =
    let split = sum_by-cons (λ customer. 1 - bit_at set customer) stop stops in
    let here : bit_at set stop ≡ 1 = omega (arith, bit_at-lt set stop) in
    omega (arith, here, away)

entered_by_all : (set : ℕ) (routes : List (List ℕ)) → bit_at set 0 ≡ 0 → All (λ route. route ≡ [] → ⊥) routes → sum_by (outside set) routes ≡ 0 → length routes ≤ plan_entries set routes
entered_by_all set [] away some none = omega arith
entered_by_all set (route ∷ routes) away some none =
    let split = sum_by-cons (outside set) route routes in
    omega (
      arith,
      sum_by-cons (route_entries set) route routes,
      entered_by_one set route away (All-head (λ (route : List ℕ). route ≡ [] → ⊥) route routes some) (omega arith),
      entered_by_all set routes away (All-tail (λ (route : List ℕ). route ≡ [] → ⊥) route routes some) (omega arith),
    )

-- no stop of a feasible plan is outside the set of all customers
all_inside : (p : Problem) (set : ℕ) (routes : List (List ℕ)) → HasAllCustomers p set → IsLawful p routes → sum_by (outside set) routes ≡ 0
all_inside p set routes whole lawful =
    omega (arith, by_routes (λ customer. 1 - bit_at set customer) routes, sum_by-IsPermutation (λ customer. 1 - bit_at set customer) (concat routes) (customers p) lawful.served, none_outside set (customers p) whole)

pub obeyed_for : (p : Problem) (least : ℕ) (most : Option ℕ) (row : EntryRow) (routes : List (List ℕ)) → IsNeededFor p least most row → IsLawful p routes
    → least ≤ length routes → ForSome most (λ count. length routes ≤ count) → Obeys routes row
obeyed_for p least most row routes (inl needed) lawful many few = obeyed p row routes needed lawful
obeyed_for p least most row routes (inr (inl needed)) lawful many few =
    inl (needed.price, omega (arith, needed.routes, many, entered_by_all row.customers routes needed.depot lawful.stops (all_inside p row.customers routes needed.whole lawful)))
obeyed_for p least most row routes (inr (inr needed)) lawful many few =
    inr (needed.price, omega (arith, entered_by_each row.customers routes (all_inside p row.customers routes needed.whole lawful), few_trucks most (length routes) row.count few needed.routes))
