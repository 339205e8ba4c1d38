-- The routes of a feasible plan within a limit are cheap.
use Rattle.std.proofs.Common.{ℕ, ◌+◌, ◌-◌, ◌*◌, ◌<◌, ◌≤◌, List, length, get_or, refl, sym, subst, arith, ℤ, pos, ◌+ℤ◌, ◌≤ℤ◌}
use Rattle.std.specs.List.{All}
use Rattle.std.proofs.lemmas.Int.{ints}
use Rattle.std.proofs.lemmas.List.Elements.{Contains-get_or}
use Rattle.vrp_model.specs.Problem.{IsProblem, Problem, customers, place_count}
use Rattle.vrp_model.specs.Route.{IsLawful, plan_cost}
use Rattle.vrp_duals.specs.Duals.{AreDualsOf, DualsOf, Obeys, low_of, pairs_of, reduced, reduced_full, turns_of}
use Rattle.vrp_duals.specs.Folding.{AreFull, IsFolded}
use Rattle.vrp_duals.proofs.FoldedCosts.{folded_route}
use Rattle.vrp_duals.proofs.FullCounts.{full_route}
use Rattle.vrp_duals.proofs.PricedPlans.{cheap_route, no_less_in_full, pairs_take_two, turns_take_two}
use Rattle.vrp_labels.specs.Fixing.{KeepsCheap, with_followers}
use Rattle.vrp_labels.specs.Graph.{GraphOf}
use Rattle.vrp_labels.specs.Plans.{IsAlike, IsGapFor}
use Rattle.vrp_labels.specs.Route.{IsAliveRoute, IsCheap}
use Rattle.vrp_labels.specs.Widening.{with_memories}
use Rattle.vrp_labels.proofs.AlikeGraphs.{route_alike}

-- the stops of a route are places of the problem
places_known : (p : Problem) (d : DualsOf) (g : GraphOf) (route : List ℕ) → IsFolded p d g.folded → IsAliveRoute g route → All (λ stop. stop < place_count p) route
places_known p d g route folded alive k x lt = subst (λ n. get_or route k x < n) folded.places (alive.is_ending.known k x lt).1

-- no reduced cost is far below 0
reduced_least : (p : Problem) (d : DualsOf) (g : GraphOf) (limit : ℕ) (gap : ℤ) (route : List ℕ) → IsProblem p → AreDualsOf p d → IsFolded p d g.folded → (is : IsGapFor d g (length (customers p)) limit gap) → IsAliveRoute g route
    → pos 0 ≤ℤ (reduced p d route +ℤ pos is.depth)
reduced_least p d g limit gap route problem duals folded is alive =
    subst (λ (z : ℤ). pos 0 ≤ℤ (z +ℤ pos is.depth)) (folded_route p d g.folded route problem duals folded (places_known p d g route folded alive)) (is.least route alive)

within : (l r gap : ℤ) (n : ℕ) → (l +ℤ r) ≤ℤ pos n → pos n ≤ℤ (l +ℤ gap) → r ≤ℤ gap
within l r gap n p q = omega (arith, ints)

pub cheap_turns : (p : Problem) (d : DualsOf) (g : GraphOf) (routes : List (List ℕ)) (limit : ℕ) (gap : ℤ) → IsProblem p → AreDualsOf p d → IsFolded p d g.folded → IsGapFor d g (length (customers p)) limit gap
    → IsLawful p routes → All (Obeys routes) d.entries → plan_cost p routes ≤ limit → All (IsAliveRoute g) routes → All (IsCheap g gap) routes
cheap_turns p d g routes limit gap problem duals folded is lawful obeyed cost alive k x lt =
    let route = get_or routes k x in
    let below = cheap_route turns_of turns_take_two p d routes route limit is.depth duals lawful obeyed cost
    (λ k x lt. reduced_least p d g limit gap (get_or routes k x) problem duals folded is (alive k x lt)) (Contains-get_or routes k x lt) in
    record {
      is_route = alive k x lt;
      cheap = subst (λ (z : ℤ). z ≤ℤ gap) (sym (folded_route p d g.folded route problem duals folded (places_known p d g route folded (alive k x lt))))
          (within (low_of d) (reduced p d route) gap (d.scale * limit + (length (customers p) - 1) * is.depth) below is.covers);
    }

pub cheap_full : (p : Problem) (d : DualsOf) (g : GraphOf) (memories : List ℕ) (routes : List (List ℕ)) (limit : ℕ) (gap : ℤ) → IsProblem p → AreDualsOf p d → IsFolded p d g.folded → AreFull d memories → IsGapFor d g (length (customers p)) limit gap
    → IsLawful p routes → All (Obeys routes) d.entries → plan_cost p routes ≤ limit → All (IsAliveRoute g) routes → All (IsCheap (with_memories g memories) gap) routes
cheap_full p d g memories routes limit gap problem duals folded full is lawful obeyed cost alive k x lt =
    let route = get_or routes k x in
    let below = cheap_route pairs_of pairs_take_two p d routes route limit is.depth duals lawful obeyed cost
    (λ k x lt. more (reduced p d (get_or routes k x)) (reduced_full p d (get_or routes k x)) (no_less_in_full p d (get_or routes k x) duals) (reduced_least p d g limit gap (get_or routes k x) problem duals folded is (alive k x lt)))
    (Contains-get_or routes k x lt) in
    record {
      is_route = route_alike g (with_memories g memories) route (record { places = refl; demands = refl; capacity = refl; followers = refl }) (alive k x lt);
      cheap = subst (λ (z : ℤ). z ≤ℤ gap) (sym (full_route p d g.folded memories route problem duals folded full (places_known p d g route folded (alive k x lt))))
          (within (low_of d) (reduced_full p d route) gap (d.scale * limit + (length (customers p) - 1) * is.depth) below is.covers);
    }
  where
    more : (r f : ℤ) → r ≤ℤ f → pos 0 ≤ℤ (r +ℤ pos is.depth) → pos 0 ≤ℤ (f +ℤ pos is.depth)
    more r f le low = omega (arith, ints)

pub stays_alive : (g next : GraphOf) (gap : ℤ) (followers : List ℕ) (routes : List (List ℕ)) → KeepsCheap g gap followers → IsAlike (with_followers g followers) next → All (IsCheap g gap) routes → All (IsAliveRoute next) routes
stays_alive g next gap followers routes keeps alike cheap k x lt =
    let route = get_or routes k x in
    route_alike (with_followers g followers) next route alike (keeps.cheap route (cheap k x lt))
