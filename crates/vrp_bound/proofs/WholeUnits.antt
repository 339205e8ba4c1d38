-- Amounts, demands and loads in units, and what is known of a problem in units.
use Rattle.std.proofs.Common.{◌≡◌, ℕ, ◌+◌, ◌*◌, ◌/◌, ◌%◌, ◌<◌, ◌≤◌, max, min, map, List, [], ◌∷◌, ◌++◌, length, get_or, take, inl, inr, ap, ◌∙◌, sym, subst, below_more, slice_index, arith}
use Rattle.std.specs.Int.{IsGcd, ◌∣◌}
use Rattle.std.specs.List.{All, Contains, sum_by}
use Rattle.std.proofs.Math.ListN.{get_or-append}
use Rattle.std.proofs.Math.Seq.{get_or-append_seam}
use Rattle.std.proofs.lemmas.Bool.{cases_lt}
use Rattle.std.proofs.lemmas.List.{get_or-map, get_or_default, get_or_past, length-map, take_more}
use Rattle.std.proofs.lemmas.List.Elements.{All-contains, All-contains_itself, All-tail}
use Rattle.std.proofs.lemmas.List.Sums.{sum_by-cons}
use Rattle.std.proofs.lemmas.Nat.{div-add-mod', div-mul-add, le-div, mod_below, mul-le}
use Rattle.std.proofs.lemmas.Nat.Gcd.{dvd_of_mod-eq-zero, dvd_trans, le_of_dvd, mod-eq-zero_of_dvd}
use Rattle.vrp_model.specs.Problem.{IsProblem, Problem, demand_of}
use Rattle.vrp_model.specs.Route.{load_of}
use Rattle.vrp_bound.specs.Inner.Scope.{IsScope}
use Rattle.vrp_bound.specs.Tables.{room_of}
use Rattle.vrp_bound.specs.Inner.Units.{IsGreatestUnit, IsUnit, in_units}

-- ---- amounts

pub whole_amount : (unit amount : ℕ) → unit ∣ amount → amount ≡ amount / unit * unit
whole_amount unit amount divides =
    let none : amount % unit ≡ 0 = mod-eq-zero_of_dvd unit divides in
    omega (arith, div-add-mod' amount unit, none)

pub units_of_whole : (unit amount : ℕ) → 1 ≤ unit → amount * unit / unit ≡ amount
units_of_whole unit amount some =
    let none : amount * unit ≡ amount * unit + 0 = omega arith in
    ap (λ n. n / unit) none ∙ div-mul-add amount unit 0 some

pub units_within : (unit amount most : ℕ) → 1 ≤ unit → amount * unit ≤ most → amount ≤ most / unit
units_within unit amount most some fits = le-div amount most unit some fits

pub within_of_units : (unit amount most : ℕ) → amount ≤ most / unit → amount * unit ≤ most
within_of_units unit amount most fits = omega (arith, mul-le amount unit (most / unit) unit fits (omega arith), div-add-mod' most unit)

pub units_rise : (unit less more : ℕ) → 1 ≤ unit → less ≤ more → less / unit ≤ more / unit
units_rise unit less more some fits = units_within unit (less / unit) more some (omega (arith, div-add-mod' less unit, fits))

pub no_more_units : (unit amount : ℕ) → 1 ≤ unit → amount / unit ≤ amount
no_more_units unit amount some =
    let each : amount / unit * 1 ≤ amount / unit * unit = mul-le (amount / unit) 1 (amount / unit) unit (omega arith) some in
    let one : amount / unit * 1 ≡ amount / unit = omega arith in
    omega (arith, each, one, div-add-mod' amount unit)

-- ---- demands and loads

pub demand_in : (unit : ℕ) (p : Problem) (place : ℕ) → 1 ≤ unit → demand_of (in_units unit p) place ≡ demand_of p place / unit
demand_in unit p place some =
    elim (cases_lt place (length p.demands)) [
      | inl inside ↦ get_or-map (λ demand. demand / unit) p.demands place 0 0 inside
      | inr outside ↦
          let none : demand_of p place ≡ 0 = get_or_past p.demands place 0 outside in
          let nothing : demand_of (in_units unit p) place ≡ 0 = get_or_past (map (λ demand. demand / unit) p.demands) place 0 (omega (arith, outside, length-map p.demands (λ demand. demand / unit))) in
          omega (arith, none, nothing, no_more_units unit (demand_of p place) some)
    ]

pub whole_demand : (unit : ℕ) (p : Problem) (among : List ℕ) (customer : ℕ) → IsUnit p among unit → Contains among customer → demand_of p customer ≡ demand_of (in_units unit p) customer * unit
whole_demand unit p among customer is known =
    let divides = All-contains (λ c. unit ∣ demand_of p c) among customer is.whole known in
    whole_amount unit (demand_of p customer) divides ∙ ap (λ n. n * unit) (sym (demand_in unit p customer is.some))

-- the load of stops among the customers is a whole number of units
pub load_in : (unit : ℕ) (p : Problem) (among stops : List ℕ) → IsUnit p among unit → All (Contains among) stops → load_of p stops ≡ load_of (in_units unit p) stops * unit
load_in unit p among [] is within = omega arith
load_in unit p among (stop ∷ stops) is within =
    let q = in_units unit p in
    let here = whole_demand unit p among stop is (within 0 stop (omega arith)) in
    let behind = load_in unit p among stops is (All-tail (Contains among) stop stops within) in
    let parts : (demand_of q stop + load_of q stops) * unit ≡ demand_of q stop * unit + load_of q stops * unit = omega arith in
    let all : load_of q (stop ∷ stops) * unit ≡ demand_of q stop * unit + load_of q stops * unit = ap (λ n. n * unit) (sum_by-cons (demand_of q) stop stops) ∙ parts in
    omega (arith, here, behind, all, sum_by-cons (demand_of p) stop stops)

pub loads_in : (unit : ℕ) (p : Problem) (among : List ℕ) (tours : List (List ℕ)) → IsUnit p among unit → All (All (Contains among)) tours → sum_by (load_of p) tours ≡ sum_by (load_of (in_units unit p)) tours * unit
loads_in unit p among [] is within = omega arith
loads_in unit p among (tour ∷ tours) is within =
    let q = in_units unit p in
    let here = load_in unit p among tour is (within 0 tour (omega arith)) in
    let behind = loads_in unit p among tours is (All-tail (All (Contains among)) tour tours within) in
    let parts : (load_of q tour + sum_by (load_of q) tours) * unit ≡ load_of q tour * unit + sum_by (load_of q) tours * unit = omega arith in
    let all : sum_by (load_of q) (tour ∷ tours) * unit ≡ load_of q tour * unit + sum_by (load_of q) tours * unit = ap (λ n. n * unit) (sum_by-cons (load_of q) tour tours) ∙ parts in
    omega (arith, here, behind, all, sum_by-cons (load_of p) tour tours)

-- what all of them demand together
pub whole_load : (unit : ℕ) (p : Problem) (among : List ℕ) → IsUnit p among unit → load_of p among / unit ≡ load_of (in_units unit p) among
whole_load unit p among is =
    let all = load_in unit p among among is (All-contains_itself among) in
    ap (λ n. n / unit) all ∙ units_of_whole unit (load_of (in_units unit p) among) is.some

-- ---- problems

problem_in : (unit : ℕ) (p : Problem) → 1 ≤ unit → IsProblem p → IsProblem (in_units unit p)
problem_in unit p some problem = record {
  some_places = problem.some_places;
  few_places = problem.few_places;
  one_demand_each = length-map p.demands (λ demand. demand / unit) ∙ problem.one_demand_each;
  weight_square = problem.weight_square;
  small_weights = problem.small_weights;
  empty_depot = omega (arith, demand_in unit p 0 some, no_more_units unit (demand_of p 0) some, problem.empty_depot);
  fitting_demands = λ place. omega (arith, demand_in unit p place some, units_rise unit (demand_of p place) p.capacity some (problem.fitting_demands place));
  small_capacity = omega (arith, no_more_units unit p.capacity some, problem.small_capacity);
  some_trucks = problem.some_trucks;
  few_trucks = problem.few_trucks;
}

some_units : (unit amount demanded : ℕ) → 1 ≤ amount → amount ≡ demanded * unit → 1 ≤ demanded
some_units unit amount demanded some is = elim (cases_lt 0 demanded) [
  | inl more ↦ more
  | inr none ↦
      let zero_units : demanded ≡ 0 = omega (arith, none) in
      let nothing : demanded * unit ≡ 0 * unit = ap (λ n. n * unit) zero_units in
      absurd (omega (arith, some, is, nothing))
]

pub scope_in : (unit : ℕ) (p : Problem) (among : List ℕ) → IsUnit p among unit → IsScope p among → IsScope (in_units unit p) among
scope_in unit p among is scope = record {
  problem = problem_in unit p is.some scope.problem;
  places = scope.places;
  demands = λ k d lt. some_units unit (demand_of p (get_or among k d)) (demand_of (in_units unit p) (get_or among k d)) (scope.demands k d lt) (whole_demand unit p among (get_or among k d) is (All-contains_itself among k d lt));
  light = omega (arith, whole_load unit p among is, no_more_units unit (load_of p among) is.some, scope.light);
}

-- ---- the unit of some customers

-- 0 divides no amount but 0
nothing_divides : (amount : ℕ) → 0 < amount → 0 ∣ amount → ⊥
nothing_divides amount some divides = absurd (omega (arith, some, mod-eq-zero_of_dvd 0 divides))

one_divides : (amount : ℕ) → 1 ∣ amount
one_divides amount = dvd_of_mod-eq-zero 1 (let none : amount % 1 ≡ 0 = omega (arith, mod_below amount 1 (omega arith)) in none)

pub divides_more : (p : Problem) (among : List ℕ) (k unit demand more : ℕ) → IsGcd unit demand more → demand ≡ demand_of p (get_or among k 0) → ((i : ℕ) → i < k → unit ∣ demand_of p (get_or among i 0)) → (i : ℕ) → i < k + 1 → more ∣ demand_of p (get_or among i 0)
divides_more p among k unit demand more gcd is before =
    below_more (λ i. more ∣ demand_of p (get_or among i 0)) k
    (λ i lt. dvd_trans more gcd.0 (before i lt))
    (subst (λ n. more ∣ n) is gcd.1)

pub unit_of_all : (p : Problem) (among : List ℕ) (k unit result : ℕ) → length among ≤ k → ((i : ℕ) → i < k → unit ∣ demand_of p (get_or among i 0)) → result ≡ max unit 1 → IsUnit p among result
unit_of_all p among k unit result all each is = record {
  some = omega (arith, is);
  whole = λ i d lt.
      let same : get_or among i 0 ≡ get_or among i d = get_or_default among i 0 d lt in
      let here : unit ∣ demand_of p (get_or among i d) = subst (λ customer. unit ∣ demand_of p customer) same (each i (omega (arith, all, lt))) in
      elim (cases_lt 0 unit) [
        | inl some ↦ let e : unit ≡ result = omega (arith, is, some) in subst (λ n. n ∣ demand_of p (get_or among i d)) e here
        | inr none ↦ let e : 1 ≡ result = omega (arith, is, none) in subst (λ n. n ∣ demand_of p (get_or among i d)) e (one_divides (demand_of p (get_or among i d)))
      ];
}

-- what divides each of the first demands divides their unit
pub divided_more : (p : Problem) (among : List ℕ) (k unit demand more : ℕ) → IsGcd unit demand more → demand ≡ demand_of p (get_or among k 0) → ((other : ℕ) → ((i : ℕ) → i < k → other ∣ demand_of p (get_or among i 0)) → other ∣ unit)
    → (other : ℕ) → ((i : ℕ) → i < k + 1 → other ∣ demand_of p (get_or among i 0)) → other ∣ more
divided_more p among k unit demand more gcd is so_far = λ other divides.
    gcd.2 other (so_far other (λ i lt. divides i (omega (arith, lt)))) (subst (λ n. other ∣ n) (sym is) (divides k (omega arith)))

-- the unit of all demands is the greatest
pub greatest_of_all : (p : Problem) (among : List ℕ) (k unit result : ℕ) → k ≤ length among → length among ≤ k → ((i : ℕ) → i < k → unit ∣ demand_of p (get_or among i 0)) → ((other : ℕ) → ((i : ℕ) → i < k → other ∣ demand_of p (get_or among i 0)) → other ∣ unit) → result ≡ max unit 1
    → IsGreatestUnit p among result
greatest_of_all p among k unit result within all each divided is =
    let whole = unit_of_all p among k unit result all each is in
    record {
      is_unit = whole;
      greatest = λ other customer other_is (j, lt, here) some.
          let at : demand_of p (get_or among j 0) ≡ demand_of p customer = ap (demand_of p) (get_or_default among j 0 customer lt ∙ here) in
          let unit_some : 0 < unit = elim (cases_lt 0 unit) [
            | inl above ↦ above
            | inr none ↦ absurd (let zero_is : unit ≡ 0 = omega (arith, none) in let never : 0 ∣ demand_of p customer = subst (λ n. n ∣ demand_of p customer) zero_is (subst (λ n. unit ∣ n) at (each j (omega (arith, lt, all)))) in nothing_divides (demand_of p customer) some never)
          ] in
          let divides : other ∣ unit = divided other (λ i inside. subst (λ c. other ∣ demand_of p c) (sym (get_or_default among i 0 customer (omega (arith, inside, within)))) (other_is.whole i customer (omega (arith, inside, within)))) in
          omega (arith, le_of_dvd {m = other} {n = unit} unit_some divides, is);
    }

pub demands_more : (unit : ℕ) (p : Problem) (place demand units : ℕ) → 1 ≤ unit → place < length (in_units unit p).demands → demand ≡ demand_of p place → units ≡ demand / unit → take (place + 1) (in_units unit p).demands ≡ take place (in_units unit p).demands ++ units ∷ []
demands_more unit p place demand units some inside is units_is =
    let here : demand_of (in_units unit p) place ≡ units = demand_in unit p place some ∙ ap (λ n. n / unit) (sym is) ∙ sym units_is in
    take_more (in_units unit p).demands place 0 inside ∙ ap (λ n. take place (in_units unit p).demands ++ n ∷ []) here

-- ---- equal customers, equal units

pub same_scope : (P : Problem → List ℕ → Type 0) (p q : Problem) (among others : List ℕ) → q ≡ p → others ≡ among → P q others → P p among
same_scope P p q among others same_problem same_list holds = subst (λ a. P p a) same_list (subst (λ b. P b others) same_problem holds)

pub same_units : (P : Problem → List ℕ → ℕ → Type 0) (p q : Problem) (among others : List ℕ) (unit other : ℕ) → q ≡ p → others ≡ among → other ≡ unit → P q others other → P p among unit
same_units P p q among others unit other same_problem same_list same_unit holds =
    subst (P p among) same_unit (same_scope (λ b a. P b a other) p q among others same_problem same_list holds)

-- what all demand in units, and what one truck can carry of it
pub demand_units : (p q : Problem) (among others : List ℕ) (unit other demand : ℕ) → q ≡ p → others ≡ among → other ≡ unit → IsUnit p among unit → demand ≡ load_of p among / other → demand ≡ load_of (in_units other q) others
demand_units p q among others unit other demand same_problem same_list same_unit is demand_is =
    same_units (λ b a u. demand ≡ load_of (in_units u b) a) q p others among other unit (sym same_problem) (sym same_list) (sym same_unit)
    (demand_is ∙ ap (λ n. load_of p among / n) same_unit ∙ whole_load unit p among is)

pub room_units : (p q : Problem) (among others : List ℕ) (unit other demand room : ℕ) → q ≡ p → others ≡ among → other ≡ unit → IsUnit p among unit → demand ≡ load_of p among / other → room ≡ min (p.capacity / other) demand → room ≡ room_of (in_units other q) others
room_units p q among others unit other demand room same_problem same_list same_unit is demand_is room_is =
    let all = demand_units p q among others unit other demand same_problem same_list same_unit is demand_is in
    let capacity : p.capacity / other ≡ (in_units other q).capacity = ap (λ (b : Problem). b.capacity / other) (sym same_problem) in
    omega (arith, room_is, all, capacity)

-- one more amount is kept in whole units
pub quotient_more : (unit amount : ℕ) (kept : List ℕ) → length kept ≡ amount → ((k : ℕ) → k < amount → slice_index kept k ≡ k / unit) → (k : ℕ) → k < amount + 1 → slice_index (kept ++ (amount / unit) ∷ []) k ≡ k / unit
quotient_more unit amount kept long each k lt = elim (cases_lt k amount) [
  | inl before ↦ get_or-append kept ((amount / unit) ∷ []) 0 k (omega (arith, before, long)) ∙ each k before
  | inr last ↦
      let here : k ≡ length kept = omega (arith, last, lt, long) in
      ap (λ n. slice_index (kept ++ (amount / unit) ∷ []) n) here ∙ get_or-append_seam kept (amount / unit) [] 0 ∙ ap (λ n. n / unit) (sym (here ∙ long))
]
