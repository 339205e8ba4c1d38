-- The routes of a feasible plan, and what such a route begins with.
use Rattle.std.proofs.Common.{◌≡◌, ◌≢◌, ℕ, ◌+◌, ◌≤◌, List, [], ◌∷◌, ◌++◌, length, length-append, get_or, refl, sym, ap, ◌∙◌, arith}
use Rattle.std.specs.List.{All, Contains, concat}
use Rattle.std.proofs.Math.ListN.{get_or-append}
use Rattle.std.proofs.lemmas.List.{get_or-append-add}
use Rattle.std.proofs.lemmas.List.Elements.{All-cons, All-contains, All-contains_itself, All-tail}
use Rattle.std.proofs.lemmas.List.Sorted.{Contains-permutation, IsPermutation-sym}
use Rattle.std.proofs.lemmas.List.Sums.{sum_by-append}
use Rattle.vrp_model.specs.Problem.{Problem, customers, demand_of}
use Rattle.vrp_model.specs.Route.{IsLawful, load_of}
use Rattle.vrp_model.proofs.DistinctLists.{AreDistinct, AreDistinct-permutation, customers_distinct}
use Rattle.vrp_model.proofs.Words.{last_behind}
use Rattle.vrp_routes.specs.Label.{IsBeginning}
use Rattle.vrp_routes.specs.Useful.{BeginsUseful}
use Rattle.vrp_routes.proofs.Replaced.{first_part, second_part}
use Rattle.vrp_routes.specs.declared.plan_range.PlanRange.{PlanRange}

distinct_first : (xs ys : List ℕ) → AreDistinct (xs ++ ys) → AreDistinct xs
distinct_first xs ys distinct i j d less within same =
    distinct i j d less (omega (arith, within, length-append xs ys)) (get_or-append xs ys d i (omega (arith, less, within)) ∙ same ∙ sym (get_or-append xs ys d j within))

distinct_second : (xs ys : List ℕ) → AreDistinct (xs ++ ys) → AreDistinct ys
distinct_second xs ys distinct i j d less within same =
    distinct (length xs + i) (length xs + j) d (omega (arith, less)) (omega (arith, within, length-append xs ys)) (get_or-append-add xs ys i d ∙ same ∙ sym (get_or-append-add xs ys j d))

-- a route of a feasible plan
pub record IsRoute (p : Problem) (route : List ℕ) : Type 0 where
  pub known : All (Contains (customers p)) route
  pub once : AreDistinct route
  pub some : route ≢ []
  pub light : load_of p route ≤ p.capacity

routes_from : (p : Problem) (routes : List (List ℕ)) → All (Contains (customers p)) (concat routes) → AreDistinct (concat routes) → All (λ r. r ≢ []) routes → All (λ r. load_of p r ≤ p.capacity) routes → All (IsRoute p) routes
routes_from p [] known once some light = λ i d lt. absurd (omega (arith, lt))
routes_from p (route ∷ routes) known once some light =
    All-cons (IsRoute p) route routes
    (record {
      known = first_part (Contains (customers p)) route (concat routes) known;
      once = distinct_first route (concat routes) once;
      some = some 0 route (omega arith);
      light = light 0 route (omega arith);
    })
    (routes_from p routes (second_part (Contains (customers p)) route (concat routes) known) (distinct_second route (concat routes) once) (All-tail (λ r. r ≢ []) route routes some) (All-tail (λ r. load_of p r ≤ p.capacity) route routes light))

pub are_routes : (p : Problem) (routes : List (List ℕ)) → IsLawful p routes → All (IsRoute p) routes
are_routes p routes lawful =
    routes_from p routes
    (λ i d lt. Contains-permutation (concat routes) (customers p) (get_or (concat routes) i d) lawful.served (All-contains_itself (concat routes) i d lt))
    (AreDistinct-permutation (customers p) (concat routes) (IsPermutation-sym (concat routes) (customers p) lawful.served) (customers_distinct p))
    lawful.stops lawful.fits

-- the last of some stops
pub record EndsAt (stops : List ℕ) : Type 0 where
  pub prefix : List ℕ
  pub last : ℕ
  pub is : stops ≡ prefix ++ last ∷ []
  pub ends : last_behind 0 stops ≡ last

pub ends_at : (stops : List ℕ) → stops ≢ [] → EndsAt stops
ends_at [] some = absurd (some refl)
ends_at (k ∷ []) some = record { prefix = []; last = k; is = refl; ends = refl }
ends_at (k ∷ j ∷ stops) some =
    let rest = ends_at (j ∷ stops) (λ none. (cc)) in
    record { prefix = k ∷ rest.prefix; last = rest.last; is = ap (λ (xs : List ℕ). k ∷ xs) rest.is; ends = rest.ends }

begins_route : (p : Problem) (stops more : List ℕ) → IsRoute p (stops ++ more) → IsBeginning p stops
begins_route p stops more route = record {
  known = first_part (Contains (customers p)) stops more route.known;
  once = distinct_first stops more route.once;
  light = omega (arith, route.light, sum_by-append (demand_of p) stops more);
}

-- what begins a useful route may begin one
pub useful_begins : (p : Problem) (range : PlanRange) (stops : List ℕ) → BeginsUseful p range stops → IsBeginning p stops
useful_begins p range stops (more, useful) = begins_route p stops more (All-contains (IsRoute p) useful.plan.routes (stops ++ more) (are_routes p useful.plan.routes useful.canonical.plan_of.lawful) useful.among)
