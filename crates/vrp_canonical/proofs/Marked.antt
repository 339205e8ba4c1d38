-- The routes that are marked, route by route.
use Rattle.std.proofs.Common.{◌≡◌, ℕ, ◌+◌, ◌<◌, Bool, true, false, inl, inr, List, [], ◌∷◌, ◌++◌, get_or, length, map, sym, ap, subst, ◌∙◌, arith}
use Rattle.std.specs.List.{Contains}
use Rattle.std.proofs.lemmas.Bool.{cases_lt}
use Rattle.std.proofs.lemmas.List.{get_or-map, length-map, map-append}
use Rattle.std.proofs.lemmas.List.Elements.{All-push, Contains-append_left, Contains-push}
use Rattle.vrp_canonical.specs.Ordering.{AreMarked, StandsIn, route_of, stops_in, stops_of}
use Rattle.vrp_canonical.specs.Passing.{route_in}
use Rattle.vrp_canonical.specs.declared.ordered.ListedRoute.{ListedRoute}
use Rattle.vrp_partition.specs.declared.route.Route.{Route}
use Rattle.vrp_routes.specs.Pool.{RouteOf, no_route}

pub with_marked : (stops : List (List ℕ)) (pool : List Route) (marks : List Bool) (at : ℕ) (listed : List ListedRoute) (route : ListedRoute) → at < length stops → AreMarked stops pool marks at listed
    → stops_of route ≡ get_or stops at [] → route_of route ≡ route_in pool at → AreMarked stops pool marks (at + 1) (listed ++ route ∷ [])
with_marked stops pool marks at listed route lt marked stops_are is = record {
  among = All-push (StandsIn stops pool) listed route marked.among (record { at = at; within = lt; stops_are = stops_are; is = is });
  every = λ k below within mark.
      subst (λ (xs : List (List ℕ)). Contains xs (get_or stops k [])) (sym (map-append stops_of listed (route ∷ [])))
      (elim (cases_lt k at) [
        | inl before ↦ Contains-append_left (map stops_of listed) (stops_of route ∷ []) (get_or stops k []) (marked.every k before within mark)
        | inr here ↦
            let same : at ≡ k = omega (arith, here, below) in
            subst (λ n. Contains (map stops_of listed ++ stops_of route ∷ []) (get_or stops n [])) same
            (subst (Contains (map stops_of listed ++ stops_of route ∷ [])) stops_are (Contains-push (map stops_of listed) (stops_of route)))
      ]);
}

pub without_unmarked : (stops : List (List ℕ)) (pool : List Route) (marks : List Bool) (at : ℕ) (listed : List ListedRoute) → AreMarked stops pool marks at listed → get_or marks at false ≡ false → AreMarked stops pool marks (at + 1) listed
without_unmarked stops pool marks at listed marked unmarked = record {
  among = marked.among;
  every = λ k below within mark. elim (cases_lt k at) [
    | inl before ↦ marked.every k before within mark
    | inr here ↦
        let same : k ≡ at = omega (arith, here, below) in
        absurd (let yes : true ≡ false = sym mark ∙ ap (λ n. get_or marks n false) same ∙ unmarked in cc yes)
  ];
}

-- the stops of a route of vrp_routes' pool
pub stops_at : (pool : List RouteOf) (at : ℕ) → at < length pool → get_or (map stops_in pool) at [] ≡ stops_in (get_or pool at no_route)
stops_at pool at lt = get_or-map stops_in pool at no_route [] lt

-- there are as many as there are routes
pub at_stops : (pool : List RouteOf) (at : ℕ) → at < length pool → at < length (map stops_in pool)
at_stops pool at lt = omega (arith, lt, length-map pool stops_in)
