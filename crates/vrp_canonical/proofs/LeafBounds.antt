-- What is known of the canonical plan from the choices of a leaf, and which pool has its routes.
use Rattle.std.proofs.Common.{◌≡◌, ℕ, ◌+◌, ◌<◌, ◌≤◌, ◌==◌, not, Bool, true, false, if◌then◌else◌, inl, inr, List, [], ◌∷◌, ◌++◌, bit_and, length, get_or, map, refl, sym, ap, subst, ◌∙◌, arith}
use Rattle.std.specs.Int.{bit_at}
use Rattle.std.specs.List.{All, Contains}
use Rattle.std.specs.Option.{ForSome}
use Rattle.std.proofs.lemmas.Bool.{cases_Bool, cases_lt}
use Rattle.std.proofs.lemmas.Bool.Decides.{nat_tests}
use Rattle.std.proofs.lemmas.List.{get_or_default, length-map}
use Rattle.std.proofs.lemmas.List.Elements.{All-append, All-contains, All-contains_itself, All-map, All-tail, All-weaker, Contains-append_left, Contains-append_right, Contains-get_or}
use Rattle.std.proofs.lemmas.List.Sums.{get_or-le-sum_by, sum_by-cons}
use Rattle.std.proofs.lemmas.Nat.Bits.{bit_at-zero}
use Rattle.vrp_canonical.specs.Leaves.{BoundsLeaf, KeepsChoices}
use Rattle.vrp_canonical.specs.Ordering.{chosen_of, stops_in}
use Rattle.vrp_canonical.specs.Reaching.{IsRoute, seen}
use Rattle.vrp_canonical.proofs.Begun.{all_unserved, canonical_cheapest, set_within}
use Rattle.vrp_canonical.proofs.Counted.{bits_are, here_once, served_visited}
use Rattle.vrp_canonical.proofs.OrderedPools.{listed_route, seen_all}
use Rattle.vrp_canonical.proofs.PlanChoices.{are_distinct, mapped_known, plan_choice, routes_known, seen_cost}
use Rattle.vrp_model.specs.CustomerSet.{set_of}
use Rattle.vrp_model.specs.Fleet.{IsFleet}
use Rattle.vrp_model.specs.Cheapest.{NoneCheaper}
use Rattle.vrp_model.specs.Order.{IsCanonical}
use Rattle.vrp_model.specs.Problem.{IsProblem, Problem, customers}
use Rattle.vrp_model.specs.Route.{PricedPlan, plan_cost}
use Rattle.vrp_model.proofs.CanonicalPlans.{canonical_exists}
use Rattle.vrp_partition.specs.Choice.{IsChoice, NoneBelow, comes_to, cost_of, routes_to}
use Rattle.vrp_partition.specs.Choice.{set_of as set_in}
use Rattle.vrp_partition.specs.Pricing.{MarksWithin}
use Rattle.vrp_partition.specs.declared.route.Route.{Route}
use Rattle.vrp_routes.proofs.Ranges.{plan_in_range, useful_there}
use Rattle.vrp_routes.specs.Pool.{IsListed, IsPool, IsPoolIn, RouteOf}
use Rattle.vrp_routes.specs.Range.{HaveAll, IsInRange, plans_within}
use Rattle.vrp_routes.specs.Useful.{IsUseful}
use Rattle.vrp_routes.specs.declared.plan_range.PlanRange.{PlanRange}

-- ---- each route of a plan has a customer

some_set : (p : Problem) (stops : List ℕ) → IsRoute p stops → set_of stops ≡ 0 → ⊥
some_set p [] route none = route.some refl
some_set p (k ∷ stops) route none =
    omega (arith, bits_are (k ∷ stops) k route.begins.once, here_once k stops, ap (λ n. bit_at n k) none, bit_at-zero k)

comes : (set whole : ℕ) → bit_and set whole ≡ set → (set ≡ 0 → ⊥) → not (bit_and set whole == 0) ≡ true
comes set whole within some = let other : bit_and set whole ≡ 0 → ⊥ = λ none. some (sym within ∙ none) in grind (arith, nat_tests)

abbrev one_if : Bool → ℕ
one_if test = if test then 1 else 0

counted : (whole : ℕ) (routes : List Route) → All (λ (r : Route). comes_to whole r.set ≡ true) routes → routes_to whole routes ≡ length routes
counted whole [] all = refl
counted whole (r ∷ routes) all =
    let here : one_if (comes_to whole r.set) ≡ 1 = ap one_if (all 0 r (omega arith)) in
    omega (arith, here, sum_by-cons (λ (x : Route). one_if (comes_to whole x.set)) r routes, counted whole routes (All-tail (λ (x : Route). comes_to whole x.set ≡ true) r routes all))

served_all : (p : Problem) (plan : PricedPlan) → IsCanonical p plan → All (IsRoute p) plan.routes → routes_to (set_of (customers p)) (map (seen p) plan.routes) ≡ length plan.routes
served_all p plan canonical each =
    let whole = set_of (customers p) in
    let routes = plan.routes in
    let visits = served_visited p routes (are_distinct p routes each) canonical.plan_of.lawful.served in
    let all : All (λ stops. comes_to whole (set_of stops) ≡ true) routes = λ k d lt.
    comes (set_of (get_or routes k d)) whole
    (set_within (set_of (get_or routes k d)) whole (λ i. omega (arith, get_or-le-sum_by (λ (stops : List ℕ). bit_at (set_of stops) i) routes k d lt, visits i)))
    (some_set p (get_or routes k d) (each k d lt)) in
    counted whole (map (seen p) routes) (All-map (λ (r : Route). comes_to whole r.set ≡ true) (seen p) routes all) ∙ length-map routes (seen p)

-- ---- a leaf

in_leaf : (p : Problem) (range : PlanRange) (pool : List RouteOf) (plan : PricedPlan) → IsPoolIn p range pool → IsCanonical p plan → IsInRange p range plan.routes → All (Contains (map stops_in pool)) plan.routes
in_leaf p range pool plan is_pool canonical inside =
    All-weaker (Contains plan.routes) (Contains (map stops_in pool)) (λ stops among.
    let (route, stands, is) = is_pool.complete stops (record {
      plan = plan;
      canonical = canonical;
      cheap = subst (λ (n : ℕ). n ≤ range.limit) (sym canonical.plan_of.priced) inside.cheap;
      many = inside.many;
      few = inside.few;
      among = among;
    }) in
    subst (Contains (map stops_in pool)) is (mapped_known stops_in pool route stands)) plan.routes (All-contains_itself plan.routes)

-- no choice of the leaf's pool costs less than the bound, so the canonical plan doesn't, if it is in the leaf
pub leaf_bound : (p : Problem) (range : PlanRange) (pool : List RouteOf) (routes : List Route) (fleet trucks unserved bound : ℕ)
    → IsPoolIn p range pool → routes ≡ map chosen_of pool → IsFleet p fleet
    → ((count : ℕ) → count ≤ fleet → ForSome range.most_routes (λ most. count ≤ most) → count ≤ trucks)
    → unserved ≡ set_of (customers p) → NoneBelow routes unserved trucks range.least_routes bound → BoundsLeaf p range bound
leaf_bound p range pool routes fleet trucks unserved bound is_pool are is_fleet enough all below plan canonical inside =
    let stops = map stops_in pool in
    let known = in_leaf p range pool plan is_pool canonical inside in
    let listed : All (IsRoute p) stops = All-map (IsRoute p) stops_in pool (All-weaker (IsListed p) (λ r. IsRoute p (stops_in r)) (listed_route p) pool is_pool.routes) in
    let each = routes_known p stops plan.routes listed known in
    let parts = map (seen p) plan.routes in
    let same : map (seen p) stops ≡ routes = sym (are ∙ seen_all p pool is_pool.routes) in
    let standing : All (λ r. Contains routes (seen p r)) plan.routes =
    subst (λ (rs : List Route). All (λ r. Contains rs (seen p r)) plan.routes) same
    (All-weaker (Contains stops) (λ r. Contains (map (seen p) stops) (seen p r)) (mapped_known (seen p) stops) plan.routes known) in
    let choice = plan_choice p routes fleet [] plan.routes (set_of (customers p)) fleet is_fleet each (all_unserved p) canonical.plan_of.lawful standing (omega arith) in
    let few : length plan.routes ≤ trucks = enough (length plan.routes) (is_fleet.most plan.routes canonical.plan_of.lawful) inside.few in
    let chosen : IsChoice set_in routes (set_of (customers p)) trucks parts = record { known = choice.known; once = choice.once; few = omega (arith, few, length-map plan.routes (seen p)) } in
    let none = subst (λ n. NoneBelow routes n trucks range.least_routes bound) all below in
    omega (arith, none parts chosen (omega (arith, inside.many, served_all p plan canonical each)), seen_cost p plan.routes, canonical.plan_of.priced)

-- what no kept choice is below, no choice is, up to one more than the limit
pub kept_bound : (routes kept : List Route) (customers trucks fewest limit bound : ℕ) → KeepsChoices routes customers trucks fewest limit kept
    → NoneBelow kept customers trucks fewest bound → bound ≤ limit + 1 → NoneBelow routes customers trucks fewest bound
kept_bound routes kept customers trucks fewest limit bound keeps below within parts choice many =
    elim (cases_lt limit (cost_of parts)) [
      | inl dear ↦ omega (arith, dear, within)
      | inr cheap ↦ below parts (record { known = keeps parts choice many cheap; once = choice.once; few = choice.few }) many
    ]

-- ---- the marked routes

abbrev pub none : Route
none = record { set = 0; cost = 0 }

-- the marked ones of the first routes are kept
abbrev pub AreKept : List Route → List Bool → ℕ → List Route → Type 0
AreKept routes marks count kept = (i : ℕ) → i < count → get_or marks i false ≡ true → Contains kept (get_or routes i none)

pub kept_choices : (routes : List Route) (marks : List Bool) (kept : List Route) (customers trucks fewest limit : ℕ) → MarksWithin routes customers trucks fewest limit marks
    → AreKept routes marks (length routes) kept → KeepsChoices routes customers trucks fewest limit kept
kept_choices routes marks kept customers trucks fewest limit within all parts choice many cheap = λ i d lt. part (get_or parts i d) (choice.known i d lt) (Contains-get_or parts i d lt)
  where
    part : (x : Route) → Contains routes x → Contains parts x → Contains kept x
    part x (k, inside, is) among =
        let e : get_or routes k none ≡ x = get_or_default routes k none x inside ∙ is in
        elim (cases_Bool (get_or marks k false)) [
          | inl mark ↦ subst (Contains kept) e (all k inside mark)
          | inr unmarked ↦ absurd (omega (arith, cheap, within.rest k none inside unmarked parts choice many (subst (Contains parts) (sym e) among)))
        ]

-- ---- both leaves

all_within : (p : Problem) (limit : ℕ) (routes : List (List ℕ)) → plan_cost p routes ≤ limit → IsInRange p (plans_within limit) routes
all_within p limit routes cheap = record { cheap = cheap; many = omega arith; few = λ most is. absurd (cc) }

-- what bounds the canonical plan in both leaves, and is at most one more than the limit, bounds all plans
pub leaves_bound : (p : Problem) (limit bound : ℕ) (few many : PlanRange) (one other : ℕ) → IsProblem p → HaveAll (plans_within limit) few many
    → BoundsLeaf p few one → BoundsLeaf p many other → bound ≤ one → bound ≤ other → bound ≤ limit + 1 → NoneCheaper p bound
leaves_bound p limit bound few many one other problem all first second below also within routes lawful =
    let (plan, canonical) = canonical_exists p routes problem lawful in
    let most = canonical_cheapest p plan routes canonical lawful in
    elim (cases_lt limit plan.cost) [
      | inl dear ↦ omega (arith, dear, within, most)
      | inr cheap ↦ elim (all p plan.routes (all_within p limit plan.routes (omega (arith, cheap, canonical.plan_of.priced)))) [
        | inl here ↦ omega (arith, first plan canonical here, below, most)
        | inr there ↦ omega (arith, second plan canonical there, also, most)
      ]
    ]

-- a route of the pool has these stops
abbrev Has : List RouteOf → List ℕ → Type 0
Has pool stops = (route : RouteOf) × Contains pool route × (route.stops ≡ stops)

-- where the pool has the useful routes of each leaf that may have the canonical plan, it is complete
pool_for : (p : Problem) (limit least : ℕ) (few many : PlanRange) (pool : List RouteOf) → least ≤ limit → HaveAll (plans_within limit) few many → All (IsListed p) pool
    → ((stops : List ℕ) (useful : IsUseful p least stops) → IsInRange p few useful.plan.routes → Has pool stops)
    → ((stops : List ℕ) (useful : IsUseful p least stops) → IsInRange p many useful.plan.routes → Has pool stops)
    → IsPool p least pool
pool_for p limit least few many pool within all listed one other = record {
  routes = listed;
  complete = λ stops useful.
      let inside = plan_in_range p (plans_within least) stops useful in
      elim (all p useful.plan.routes (all_within p limit useful.plan.routes (omega (arith, inside.cheap, within)))) [
        | inl here ↦ one stops useful here
        | inr there ↦ other stops useful there
      ];
}

here_complete : (p : Problem) (least : ℕ) (range : PlanRange) (pool : List RouteOf) → IsPoolIn p range pool → (stops : List ℕ) (useful : IsUseful p least stops) → IsInRange p range useful.plan.routes → Has pool stops
here_complete p least range pool is stops useful inside = is.complete stops (useful_there p (plans_within least) range stops useful inside)

not_there : (p : Problem) (least bound : ℕ) (range : PlanRange) (pool : List RouteOf) → least < bound → BoundsLeaf p range bound → (stops : List ℕ) (useful : IsUseful p least stops) → IsInRange p range useful.plan.routes → Has pool stops
not_there p least bound range pool less bounds stops useful inside = absurd (omega (arith, less, bounds useful.plan useful.canonical inside, useful.cheap))

pub few_alone : (p : Problem) (limit least bound : ℕ) (few many : PlanRange) (pool : List RouteOf) → least ≤ limit → HaveAll (plans_within limit) few many → IsPoolIn p few pool
    → least < bound → BoundsLeaf p many bound → IsPool p least pool
few_alone p limit least bound few many pool within all is less bounds =
    pool_for p limit least few many pool within all is.routes (here_complete p least few pool is) (not_there p least bound many pool less bounds)

pub many_alone : (p : Problem) (limit least bound : ℕ) (few many : PlanRange) (pool : List RouteOf) → least ≤ limit → HaveAll (plans_within limit) few many → IsPoolIn p many pool
    → least < bound → BoundsLeaf p few bound → IsPool p least pool
many_alone p limit least bound few many pool within all is less bounds =
    pool_for p limit least few many pool within all is.routes (not_there p least bound few pool less bounds) (here_complete p least many pool is)

pub both_pools : (p : Problem) (limit least : ℕ) (few many : PlanRange) (first second pool : List RouteOf) → least ≤ limit → HaveAll (plans_within limit) few many
    → IsPoolIn p few first → IsPoolIn p many second → All (Contains (first ++ second)) pool → All (Contains pool) (first ++ second) → IsPool p least pool
both_pools p limit least few many first second pool within all is also among every =
    pool_for p limit least few many pool within all
    (All-weaker (Contains (first ++ second)) (IsListed p) (λ route known. All-contains (IsListed p) (first ++ second) route (All-append (IsListed p) first second is.routes also.routes) known) pool among)
    (λ stops useful inside.
    let (route, stands, same) = here_complete p least few first is stops useful inside in
    (route, All-contains (Contains pool) (first ++ second) route every (Contains-append_left first second route stands), same))
    (λ stops useful inside.
    let (route, stands, same) = here_complete p least many second also stops useful inside in
    (route, All-contains (Contains pool) (first ++ second) route every (Contains-append_right first second route stands), same))
