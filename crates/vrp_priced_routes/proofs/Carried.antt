-- Routes that a truck can carry, in units.
use Rattle.std.proofs.Common.{◌≡◌, ℕ, ◌+◌, ◌*◌, ◌-◌, ◌/◌, ◌≤◌, ◌<◌, max, true, false, if◌then◌else◌, nat_lt, inl, inr, List, [], ◌∷◌, length, get_or, sym, ap, subst, ◌∙◌, arith}
use Rattle.std.specs.List.{All, Contains, sum_by}
use Rattle.std.proofs.lemmas.Bool.{cases_lt}
use Rattle.std.proofs.lemmas.Bool.Decides.{nat_tests}
use Rattle.std.proofs.lemmas.List.Elements.{All-tail}
use Rattle.std.proofs.lemmas.List.Sums.{sum_by-cons}
use Rattle.std.proofs.lemmas.Nat.{div-add-mod', div-mul-add, le-div}
use Rattle.vrp_bound_prices.specs.Units.{light_one, rounded_capacity, units_of}
use Rattle.vrp_model.specs.Problem.{Problem, customers, demand_of, place_count}
use Rattle.vrp_model.specs.Route.{load_of}
use Rattle.vrp_model.proofs.CustomerPlaces.{customer_below, customer_is_some}
use Rattle.vrp_model.proofs.DistinctWithin.{sum_among}
use Rattle.vrp_priced_routes.specs.Units.{CarryRoutes, IsCarried}

-- where no unit is whole it counts as one, so a light customer has one unit more
in_units : (unit demand : ℕ) → 1 ≤ unit → units_of unit demand * unit ≤ demand + (if nat_lt demand unit then 1 else 0) * unit
in_units unit demand some = elim (cases_lt demand unit) [
  | inl light ↦
      let test : nat_lt demand unit ≡ true = grind (arith, nat_tests) in
      let none : demand / unit ≡ 0 = subst (λ n. n / unit ≡ 0) (omega arith) (div-mul-add 0 unit demand light) in
      rw (test, none) (omega arith)
  | inr heavy ↦
      let test : nat_lt demand unit ≡ false = grind (arith, nat_tests) in
      let one : 1 ≤ demand / unit = le-div 1 demand unit some (omega (arith, heavy)) in
      let whole : max 1 (demand / unit) ≡ demand / unit = omega (arith, one) in
      rw (test, whole) (omega (arith, div-add-mod' demand unit))
]

two_parts : (one other unit : ℕ) → (one + other) * unit ≡ one * unit + other * unit
two_parts one other unit = omega arith

-- a demand in units, no more than that
abbrev pub AtMostUnits : Problem → ℕ → (ℕ → ℕ) → Type 0
AtMostUnits p unit f = (stop : ℕ) → Contains (customers p) stop → f stop ≤ units_of unit (demand_of p stop)

stops_in_units : (p : Problem) (unit : ℕ) (f : ℕ → ℕ) (stops : List ℕ) → 1 ≤ unit → AtMostUnits p unit f → All (Contains (customers p)) stops → sum_by f stops * unit ≤ load_of p stops + sum_by (light_one p unit) stops * unit
stops_in_units p unit f [] some most known = omega arith
stops_in_units p unit f (stop ∷ stops) some most known =
    let rest = stops_in_units p unit f stops some most (All-tail (Contains (customers p)) stop stops known) in
    let fewer : f stop * unit ≤ units_of unit (demand_of p stop) * unit = times (f stop) (units_of unit (demand_of p stop)) (most stop (known 0 stop (omega arith))) in
    let here : units_of unit (demand_of p stop) * unit ≤ demand_of p stop + light_one p unit stop * unit = in_units unit (demand_of p stop) some in
    let parts : sum_by f (stop ∷ stops) * unit ≡ f stop * unit + sum_by f stops * unit = ap (λ n. n * unit) (sum_by-cons f stop stops) ∙ omega arith in
    let lights : sum_by (light_one p unit) (stop ∷ stops) * unit ≡ light_one p unit stop * unit + sum_by (light_one p unit) stops * unit = ap (λ n. n * unit) (sum_by-cons (light_one p unit) stop stops) ∙ omega arith in
    omega (arith, fewer, here, rest, parts, lights, sum_by-cons (demand_of p) stop stops)
  where
    times : (a b : ℕ) → a ≤ b → a * unit ≤ b * unit
    times a b le = let e : b ≡ a + (b - a) = omega (arith, le) in let split : b * unit ≡ (a + (b - a)) * unit = ap (λ n. n * unit) e in omega (arith, split, two_parts a (b - a) unit)

-- a load in units, less the light customers
fewer_units : (unit load lights capacity : ℕ) → 1 ≤ unit → load * unit ≤ capacity + lights * unit → load ≤ capacity / unit + lights
fewer_units unit load lights capacity some fits =
    elim (cases_lt load lights) [
      | inl few ↦ omega (arith, few)
      | inr more ↦
          let both : load * unit ≡ (load - lights) * unit + lights * unit = ap (λ n. n * unit) (omega (arith, more)) ∙ two_parts (load - lights) lights unit in
          omega (arith, le-div (load - lights) capacity unit some (omega (arith, both, fits)), more)
    ]

-- a truck can carry in units what it can carry
pub carried : (p : Problem) (unit : ℕ) (f : ℕ → ℕ) (route : List ℕ) → 1 ≤ unit → AtMostUnits p unit f → IsCarried p route → sum_by f route ≤ rounded_capacity p unit
carried p unit f route some most is =
    let lights = sum_among (light_one p unit) route (customers p) is.once is.known in
    let whole = fewer_units unit (sum_by f route) (sum_by (light_one p unit) route) p.capacity some
    (omega (arith, stops_in_units p unit f route some most is.known, is.light)) in
    omega (arith, whole, lights)

-- so such demands and such a capacity carry routes
pub carries : (p : Problem) (unit : ℕ) (demands : List ℕ) (capacity : ℕ) → 1 ≤ unit → length demands ≡ place_count p → capacity ≡ rounded_capacity p unit
    → ((k : ℕ) → k < length demands → 1 ≤ k → (1 ≤ get_or demands k 0) × (get_or demands k 0 ≤ units_of unit (demand_of p k))) → CarryRoutes p demands capacity
carries p unit demands capacity some long is each = record {
  long = long;
  some = λ place above lt. (each place lt above).0;
  routes = λ route carried_route. subst (λ n. sum_by (λ place. get_or demands place 0) route ≤ n) (sym is)
      (carried p unit (λ place. get_or demands place 0) route some (λ stop has. (each stop (subst (λ n. stop < n) (sym long) (customer_below p stop has)) (customer_is_some p stop has)).1) carried_route);
}
