-- Prefixes stay prefixes, and feasible words feasible, where demands and what a truck can carry are counted in units.
use Rattle.std.proofs.Common.{◌≡◌, ℕ, ◌+◌, ◌*◌, ◌-◌, ◌/◌, ◌≤◌, ◌<◌, max, true, false, if◌then◌else◌, nat_lt, inl, inr, List, [], ◌∷◌, length, get_or, sym, ap, subst, ◌∙◌, arith}
use Rattle.std.specs.List.{All, Contains, range_with_len, sum_by}
use Rattle.std.proofs.lemmas.Bool.{cases_lt}
use Rattle.std.proofs.lemmas.Bool.Decides.{nat_tests}
use Rattle.std.proofs.lemmas.List.Elements.{All-tail}
use Rattle.std.proofs.lemmas.List.Sums.{sum_by-cons}
use Rattle.std.proofs.lemmas.Nat.{div-add-mod', div-mul-add}
use Rattle.vrp_model.specs.Problem.{IsSymmetric, Problem, customers, demand_of, place_count}
use Rattle.vrp_model.specs.Route.{load_of}
use Rattle.vrp_model.specs.Word.{IsPrefix, IsLawfulWord, routes_of, served_in}
use Rattle.vrp_model.proofs.DistinctLists.{member_at}
use Rattle.vrp_model.proofs.DistinctWithin.{sum_among}
use Rattle.vrp_bound.proofs.WholeUnits.{units_within}
use Rattle.vrp_bound_prices.specs.Units.{IsRounded, light_count, light_one, units_of}
use Rattle.vrp_bound_prices.proofs.RoutesServe.{all_of_route, sum_of_route}

-- ---- loads

-- where no unit is whole it counts as one, so a light customer has one unit more
in_units : (unit demand : ℕ) → 1 ≤ unit → units_of unit demand * unit ≤ demand + (if nat_lt demand unit then 1 else 0) * unit
in_units unit demand some = elim (cases_lt demand unit) [
  | inl light ↦
      let test : nat_lt demand unit ≡ true = grind (arith, nat_tests) in
      let none : demand / unit ≡ 0 = subst (λ n. n / unit ≡ 0) (omega arith) (div-mul-add 0 unit demand light) in
      rw (test, none) (omega arith)
  | inr heavy ↦
      let test : nat_lt demand unit ≡ false = grind (arith, nat_tests) in
      let one : 1 ≤ demand / unit = units_within unit 1 demand some (omega (arith, heavy)) in
      let whole : max 1 (demand / unit) ≡ demand / unit = omega (arith, one) in
      rw (test, whole) (omega (arith, div-add-mod' demand unit))
]

load_in_units : (p q : Problem) (unit : ℕ) (stops : List ℕ) → IsRounded p q unit → All (Contains (customers p)) stops → load_of q stops * unit ≤ load_of p stops + sum_by (light_one p unit) stops * unit
load_in_units p q unit [] rounded known = omega arith
load_in_units p q unit (stop ∷ stops) rounded known =
    let rest = load_in_units p q unit stops rounded (All-tail (Contains (customers p)) stop stops known) in
    let demand : demand_of q stop ≡ units_of unit (demand_of p stop) = member_at (λ customer. demand_of q customer ≡ units_of unit (demand_of p customer)) (customers p) stop rounded.demands (known 0 stop (omega arith)) in
    let here : demand_of q stop * unit ≤ demand_of p stop + light_one p unit stop * unit = rw demand (in_units unit (demand_of p stop) rounded.some) in
    let parts : load_of q (stop ∷ stops) * unit ≡ demand_of q stop * unit + load_of q stops * unit = ap (λ n. n * unit) (sum_by-cons (demand_of q) stop stops) ∙ omega arith in
    let lights : sum_by (light_one p unit) (stop ∷ stops) * unit ≡ light_one p unit stop * unit + sum_by (light_one p unit) stops * unit = ap (λ n. n * unit) (sum_by-cons (light_one p unit) stop stops) ∙ omega arith in
    omega (arith, here, rest, parts, lights, sum_by-cons (demand_of p) stop stops)

-- a load in units, less the light customers
two_parts : (one other unit : ℕ) → (one + other) * unit ≡ one * unit + other * unit
two_parts one other unit = omega arith

fewer_units : (unit load lights capacity : ℕ) → 1 ≤ unit → load * unit ≤ capacity + lights * unit → load ≤ capacity / unit + lights
fewer_units unit load lights capacity some fits =
    elim (cases_lt load lights) [
      | inl few ↦ omega (arith, few)
      | inr more ↦
          let both : load * unit ≡ (load - lights) * unit + lights * unit = ap (λ n. n * unit) (omega (arith, more)) ∙ two_parts (load - lights) lights unit in
          omega (arith, units_within unit (load - lights) capacity some (omega (arith, both, fits)), more)
    ]

-- the customers of a route are among all, each once
route_fits : (p q : Problem) (unit : ℕ) (prefix : List ℕ) (i : ℕ) (d : List ℕ) → IsRounded p q unit → IsPrefix p prefix → i < length (routes_of prefix) → load_of q (get_or (routes_of prefix) i d) ≤ q.capacity
route_fits p q unit prefix i d rounded is lt =
    let route : List ℕ = get_or (routes_of prefix) i d in
    let known : All (Contains (customers p)) route = all_of_route (Contains (customers p)) prefix i d is.stops lt is.known in
    let lights : sum_by (light_one p unit) route ≤ light_count p unit = omega (arith, sum_of_route (light_one p unit) prefix i d is.stops lt, sum_among (light_one p unit) (served_in prefix) (customers p) is.once is.known) in
    let fits = fewer_units unit (load_of q route) (sum_by (light_one p unit) route) p.capacity rounded.some (omega (arith, load_in_units p q unit route rounded known, is.fits i d lt)) in
    omega (arith, fits, lights, rounded.capacity)

-- ---- prefixes and words

pub same_customers : (p q : Problem) → place_count q ≡ place_count p → customers q ≡ customers p
same_customers p q places = ap (λ n. range_with_len 1 (n - 1)) places

-- a prefix stays one
pub prefix_rounded : (p q : Problem) (unit : ℕ) (prefix : List ℕ) → IsRounded p q unit → (IsSymmetric q → IsSymmetric p) → IsPrefix p prefix → IsPrefix q prefix
prefix_rounded p q unit prefix rounded symmetric is = record {
  known = subst (λ (xs : List ℕ). All (Contains xs) (served_in prefix)) (sym (same_customers p q rounded.same_places)) is.known;
  once = is.once;
  stops = is.stops;
  fits = λ i d lt. route_fits p q unit prefix i d rounded is lt;
  rising = is.rising;
  few = λ most limit. is.few most (sym rounded.same_trucks ∙ limit);
  forward = λ same_back. is.forward (symmetric same_back);
}

pub lawful_rounded : (p q : Problem) (unit : ℕ) (word : List ℕ) → IsRounded p q unit → (IsSymmetric q → IsSymmetric p) → IsLawfulWord p word → IsLawfulWord q word
lawful_rounded p q unit word rounded symmetric lawful = record {
  prefix = prefix_rounded p q unit word rounded symmetric lawful.prefix;
  every = subst (λ (xs : List ℕ). All (Contains (served_in word)) xs) (sym (same_customers p q rounded.same_places)) lawful.every;
  closed = lawful.closed;
}
