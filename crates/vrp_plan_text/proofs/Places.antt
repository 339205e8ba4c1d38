-- The stops of a feasible plan are places of the problem, and few.
use Rattle.std.proofs.Common.{◌≡◌, ℕ, suc, ◌+◌, ◌-◌, ◌<◌, ◌≤◌, List, [], ◌∷◌, ◌++◌, get_or, length, length-append, arith}
use Rattle.std.specs.List.{All, concat}
use Rattle.std.proofs.lemmas.List.Elements.{All-cons, All-nil, Contains-get_or}
use Rattle.std.proofs.lemmas.List.FromFn.{length-range_with_len}
use Rattle.std.proofs.lemmas.List.Sorted.{Contains-permutation, length_permutation}
use Rattle.vrp_model.specs.Problem.{IsProblem, Problem, customers, place_count}
use Rattle.vrp_model.specs.declared.limits.TheConstants.{MAX_NODES}
use Rattle.vrp_model.proofs.CustomerPlaces.{customer_below}
use Rattle.vrp_model.specs.Route.{IsLawful}
use Rattle.vrp_plan_text.specs.Stops.{HaveStopsIn}

parts : (P : ℕ → Type 0) (xs ys : List ℕ) → All P (xs ++ ys) → All P xs × All P ys
parts P [] ys all = (All-nil P, all)
parts P (x ∷ xs) ys all =
    let rest = parts P xs ys (λ k d lt. all (suc k) d (omega (arith, lt))) in (All-cons P x xs (all 0 x (omega arith)) rest.0, rest.1)

-- what is true of all stops together is true route by route
route_by_route : (P : ℕ → Type 0) (routes : List (List ℕ)) → All P (concat routes) → All (All P) routes
route_by_route P [] all = All-nil (All P)
route_by_route P (route ∷ routes) all =
    let (here, rest) = parts P route (concat routes) all in All-cons (All P) route routes here (route_by_route P routes rest)

-- no route has more stops than all of them
each_is_short : (routes : List (List ℕ)) (most : ℕ) → length (concat routes) ≤ most → All (λ r. length r ≤ most) routes
each_is_short [] most few = All-nil (λ r. length r ≤ most)
each_is_short (route ∷ routes) most few =
    let whole : length (concat (route ∷ routes)) ≡ length route + length (concat routes) = length-append route (concat routes) in
    All-cons (λ r. length r ≤ most) route routes (omega (arith, few, whole)) (each_is_short routes most (omega (arith, few, whole)))

pub stops_within : (p : Problem) (routes : List (List ℕ)) → IsProblem p → IsLawful p routes → HaveStopsIn p routes
stops_within p routes problem lawful =
    let within = route_by_route (λ place. place < place_count p) routes (λ k d lt.
    customer_below p (get_or (concat routes) k d) (Contains-permutation (concat routes) (customers p) (get_or (concat routes) k d) lawful.served (Contains-get_or (concat routes) k d lt))) in
    let short = each_is_short routes MAX_NODES (omega (arith, length_permutation (concat routes) (customers p) lawful.served, length-range_with_len 1 (place_count p - 1), problem.few_places)) in
    λ k d lt. record { within = within k d lt; few = short k d lt }
