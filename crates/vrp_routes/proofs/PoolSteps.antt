-- A pool with one route more, or with more sequences.
use Rattle.std.proofs.Common.{◌≡◌, ℕ, ◌+◌, ◌<◌, ◌≤◌, List, [], ◌∷◌, ◌++◌, length, map, get_or, refl, sym, ap, subst, ◌∙◌, take, arith}
use Rattle.std.specs.List.{All, Contains}
use Rattle.std.proofs.lemmas.List.{get_or_default, take_all, take_more}
use Rattle.std.proofs.lemmas.List.Elements.{All-append, All-cons, All-contains_itself, All-head, All-nil, All-tail, All-weaker, Contains-append_left, Contains-append_right}
use Rattle.vrp_routes.specs.ClosedLevel.{route_by, route_with}
use Rattle.vrp_routes.specs.Pool.{RouteOf, no_route}
use Rattle.vrp_routes.specs.declared.closed.ClosedRoute.{ClosedRoute}

-- the routes are as they were where their sequences are
pub same_view : (before after : List (List ℕ)) (routes : List ClosedRoute) → ((number : ℕ) → number < length before → get_or after number [] ≡ get_or before number [])
    → All (λ route. route.label < length before) routes → map (route_by after) routes ≡ map (route_by before) routes
same_view before after [] kept all = refl
same_view before after (route ∷ routes) kept all =
    let stops = kept route.label (All-head (λ (r : ClosedRoute). r.label < length before) route routes all) in
    let here : route_by after route ≡ route_by before route = ap (λ (xs : List ℕ). route_with xs route) stops in
    let rest = same_view before after routes kept (All-tail (λ (r : ClosedRoute). r.label < length before) route routes all) in
    λ i. here i ∷ rest i

-- a route with the same stops, set, load and cost
pub same_route : (one : RouteOf) (stops : List ℕ) (route : ClosedRoute) → one.stops ≡ stops → one.set ≡ route.set → one.load ≡ route.load → one.cost ≡ route.cost → one ≡ route_with stops route
same_route one stops route stops_are set_is load_is cost_is = λ i. record { stops = stops_are i; set = set_is i; load = load_is i; cost = cost_is i }

-- ---- the routes of two pools

-- a pool has the routes of the one, and so many of the other, and no more
pub record Joins (own other : List RouteOf) (at : ℕ) (pool : List RouteOf) : Type 0 where
  pub among : All (Contains (own ++ other)) pool
  pub kept : All (Contains pool) own
  pub added : All (Contains pool) (take at other)

pub joins_none : (own other : List RouteOf) → Joins own other 0 own
joins_none own other = record {
  among = All-weaker (Contains own) (Contains (own ++ other)) (λ x known. Contains-append_left own other x known) own (All-contains_itself own);
  kept = All-contains_itself own;
  added = All-nil (Contains own);
}

-- the next route of the other is known already
pub joins_known : (own other : List RouteOf) (at : ℕ) (pool : List RouteOf) (route : RouteOf) → at < length other → get_or other at no_route ≡ route
    → Joins own other at pool → Contains pool route → Joins own other (at + 1) pool
joins_known own other at pool route lt is joins known = record {
  among = joins.among;
  kept = joins.kept;
  added = subst (All (Contains pool)) (sym (take_more other at no_route lt ∙ ap (λ (x : RouteOf). take at other ++ x ∷ []) is))
      (All-append (Contains pool) (take at other) (route ∷ []) joins.added (All-cons (Contains pool) route [] known (All-nil (Contains pool))));
}

-- the next route of the other is added
pub joins_more : (own other : List RouteOf) (at : ℕ) (pool more : List RouteOf) (route : RouteOf) → at < length other → get_or other at no_route ≡ route
    → Joins own other at pool → more ≡ pool ++ route ∷ [] → Joins own other (at + 1) more
joins_more own other at pool more route lt is joins longer =
    let known : Contains (route ∷ []) route = (0, omega arith, refl) in
    let theirs : Contains other route = subst (Contains other) is (at, lt, get_or_default other at (get_or other at no_route) no_route lt) in
    subst (Joins own other (at + 1)) (sym longer)
    (joins_known own other at (pool ++ route ∷ []) route lt is (record {
      among = All-append (Contains (own ++ other)) pool (route ∷ []) joins.among
          (All-cons (Contains (own ++ other)) route [] (Contains-append_right own other route theirs) (All-nil (Contains (own ++ other))));
      kept = All-weaker (Contains pool) (Contains (pool ++ route ∷ [])) (λ x there. Contains-append_left pool (route ∷ []) x there) own joins.kept;
      added = All-weaker (Contains pool) (Contains (pool ++ route ∷ [])) (λ x there. Contains-append_left pool (route ∷ []) x there) (take at other) joins.added;
    }) (Contains-append_right pool (route ∷ []) route known))

pub joins_all : (own other : List RouteOf) (at : ℕ) (pool : List RouteOf) → length other ≤ at → Joins own other at pool → All (Contains pool) (own ++ other)
joins_all own other at pool all joins =
    All-append (Contains pool) own other joins.kept (subst (All (Contains pool)) (take_all at other all) joins.added)
