-- The pool of vrp_routes as one to choose from; narrowed to the routes that may stand in a choice within a limit, and in order.
use Rattle.std.proofs.Common.{◌≡◌, ℕ, ◌<◌, ◌≤◌, Bool, false, inl, inr, List, [], ◌∷◌, length, get_or, map, refl, sym, ap, subst, ◌∙◌, arith}
use Rattle.std.specs.List.{All, Contains}
use Rattle.std.specs.List.Sorted.{IsPermutation}
use Rattle.std.proofs.lemmas.Bool.{cases_Bool}
use Rattle.std.proofs.lemmas.List.{get_or_default, length-map}
use Rattle.std.proofs.lemmas.List.Elements.{All-contains, All-map, All-tail, All-weaker}
use Rattle.std.proofs.lemmas.List.Sorted.{All-permutation, Contains-permutation, IsPermutation-map}
use Rattle.vrp_canonical.specs.Ordering.{AreMarked, StandsIn, chosen_of, route_of, stops_in, stops_of}
use Rattle.vrp_canonical.specs.Passing.{route_in}
use Rattle.vrp_canonical.specs.Reaching.{IsPoolOf, IsRoute, seen}
use Rattle.vrp_model.specs.Fleet.{IsFleet}
use Rattle.vrp_canonical.specs.declared.ordered.ListedRoute.{ListedRoute}
use Rattle.vrp_canonical.proofs.Begun.{all_unserved, in_pool, is_seen}
use Rattle.vrp_canonical.proofs.PlanChoices.{mapped_known, plan_choice, routes_known, seen_cost, seen_known}
use Rattle.vrp_model.specs.Problem.{Problem, customers}
use Rattle.vrp_partition.specs.Choice.{cost_of}
use Rattle.vrp_partition.specs.Pricing.{MarksWithin}
use Rattle.vrp_partition.specs.declared.route.Route.{Route}
use Rattle.vrp_model.specs.CustomerSet.{set_of}
use Rattle.vrp_routes.specs.Pool.{IsListed, IsPool, RouteOf}
use Rattle.vrp_routes.specs.Useful.{IsUseful}

pub listed_route : (p : Problem) (route : RouteOf) → IsListed p route → IsRoute p (stops_in route)
listed_route p route listed = record { begins = listed.begins; some = listed.some }

listed_seen : (p : Problem) (route : RouteOf) → IsListed p route → chosen_of route ≡ seen p (stops_in route)
listed_seen p route listed = let set = listed.set in let cost = listed.cost in λ i. record { set = set i; cost = cost i }

pub seen_all : (p : Problem) (pool : List RouteOf) → All (IsListed p) pool → map chosen_of pool ≡ map (seen p) (map stops_in pool)
seen_all p [] listed = refl
seen_all p (route ∷ pool) listed =
    let here = listed_seen p route (listed 0 route (omega arith)) in
    let rest = seen_all p pool (All-tail (IsListed p) route pool listed) in
    λ i. here i ∷ rest i

-- the pool of vrp_routes
pub whole_pool : (p : Problem) (limit : ℕ) (pool : List RouteOf) → IsPool p limit pool → IsPoolOf p limit (map stops_in pool) (map chosen_of pool)
whole_pool p limit pool is_pool = record {
  is = seen_all p pool is_pool.routes;
  each = All-map (IsRoute p) stops_in pool (All-weaker (IsListed p) (λ r. IsRoute p (stops_in r)) (listed_route p) pool is_pool.routes);
  every = λ xs useful.
      let (route, stands, is) = is_pool.complete xs useful in
      subst (Contains (map stops_in pool)) is (mapped_known stops_in pool route stands);
}

-- a route that stands in a pool
stands_seen : (p : Problem) (limit : ℕ) (stops : List (List ℕ)) (pool : List Route) (route : ListedRoute) → IsPoolOf p limit stops pool → StandsIn stops pool route
    → IsRoute p (stops_of route) × (route_of route ≡ seen p (stops_of route))
stands_seen p limit stops pool route pool_of stands =
    let many : length pool ≡ length stops = ap length pool_of.is ∙ length-map stops (seen p) in
    let (inside, same) = is_seen p limit stops pool stands.at pool_of (omega (arith, stands.within, many)) in
    (subst (IsRoute p) (sym stands.stops_are) (pool_of.each stands.at [] inside), stands.is ∙ sym same ∙ ap (seen p) (sym stands.stops_are))

seen_ordered : (p : Problem) (limit : ℕ) (stops : List (List ℕ)) (pool : List Route) (ordered : List ListedRoute) → IsPoolOf p limit stops pool → All (StandsIn stops pool) ordered → map route_of ordered ≡ map (seen p) (map stops_of ordered)
seen_ordered p limit stops pool [] pool_of stand = refl
seen_ordered p limit stops pool (route ∷ ordered) pool_of stand =
    let here = (stands_seen p limit stops pool route pool_of (stand 0 route (omega arith))).1 in
    let rest = seen_ordered p limit stops pool ordered pool_of (All-tail (StandsIn stops pool) route ordered stand) in
    λ i. here i ∷ rest i

-- a route of a canonical plan within the limit is marked, and so it is listed
marked_useful : (p : Problem) (limit most trucks count : ℕ) (stops : List (List ℕ)) (pool : List Route) (marks : List Bool) (listed : List ListedRoute)
    → IsPoolOf p limit stops pool → IsFleet p trucks → most ≤ limit → MarksWithin pool (set_of (customers p)) trucks 0 most marks → length stops ≤ count → AreMarked stops pool marks count listed
    → (xs : List ℕ) → IsUseful p most xs → Contains (map stops_of listed) xs
marked_useful p limit most trucks count stops pool marks listed pool_of fleet within marked all are xs useful =
    let plan = useful.plan in
    let known = in_pool p limit stops pool plan pool_of useful.canonical (omega (arith, useful.cheap, within)) in
    let (k, lt, is) = All-contains (Contains stops) plan.routes xs known useful.among in
    let same : get_or stops k [] ≡ xs = get_or_default stops k [] xs lt ∙ is in
    let many : length pool ≡ length stops = ap length pool_of.is ∙ length-map stops (seen p) in
    let inside : k < length pool = omega (arith, lt, many) in
    let choice = plan_choice p pool trucks [] plan.routes (set_of (customers p)) trucks fleet
    (routes_known p stops plan.routes pool_of.each known) (all_unserved p) useful.canonical.plan_of.lawful
    (seen_known p limit stops pool plan.routes pool_of known) (omega arith) in
    let cheap : cost_of (map (seen p) plan.routes) ≤ most = omega (arith, seen_cost p plan.routes, useful.canonical.plan_of.priced, useful.cheap) in
    let as_seen : route_in pool k ≡ seen p xs = sym (is_seen p limit stops pool k pool_of inside).1 ∙ ap (seen p) same in
    elim (cases_Bool (get_or marks k false)) [
      | inl mark ↦ subst (Contains (map stops_of listed)) same (are.every k (omega (arith, lt, all)) lt mark)
      | inr unmarked ↦ absurd (omega (
        arith,
        cheap,
        marked.rest k (record { set = 0; cost = 0 }) inside unmarked (map (seen p) plan.routes) choice (omega arith)
            (subst (Contains (map (seen p) plan.routes)) (sym as_seen) (mapped_known (seen p) plan.routes xs useful.among)),
      ))
    ]

-- the marked routes of a pool are one within what a choice may cost, in any order
pub narrowed_pool : (p : Problem) (limit most trucks count : ℕ) (stops : List (List ℕ)) (pool : List Route) (marks : List Bool) (listed ordered : List ListedRoute)
    → IsPoolOf p limit stops pool → IsFleet p trucks → most ≤ limit → MarksWithin pool (set_of (customers p)) trucks 0 most marks → length stops ≤ count → AreMarked stops pool marks count listed → IsPermutation listed ordered
    → IsPoolOf p most (map stops_of ordered) (map route_of ordered)
narrowed_pool p limit most trucks count stops pool marks listed ordered pool_of fleet within marked all are moved =
    let stand : All (StandsIn stops pool) ordered = All-permutation (StandsIn stops pool) listed ordered moved are.among in
    record {
      is = seen_ordered p limit stops pool ordered pool_of stand;
      each = All-map (IsRoute p) stops_of ordered (All-weaker (StandsIn stops pool) (λ r. IsRoute p (stops_of r)) (λ r stands. (stands_seen p limit stops pool r pool_of stands).0) ordered stand);
      every = λ xs useful. Contains-permutation (map stops_of listed) (map stops_of ordered) xs (IsPermutation-map stops_of listed ordered moved)
          (marked_useful p limit most trucks count stops pool marks listed pool_of fleet within marked all are xs useful);
    }
