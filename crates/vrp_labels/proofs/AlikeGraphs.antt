-- Graphs with the same alive arcs have the same routes.
use Rattle.std.proofs.Common.{◌≡◌, ℕ, ◌<◌, ◌≤◌, List, [], ◌∷◌, get_or, subst}
use Rattle.std.specs.Int.{bit_at}
use Rattle.std.specs.List.{All, sum_by}
use Rattle.vrp_duals.specs.Folding.{first_of}
use Rattle.vrp_labels.specs.Graph.{GraphOf}
use Rattle.vrp_labels.specs.Plans.{IsAlike}
use Rattle.vrp_labels.specs.Route.{IsAliveEnding, IsAliveRoute, load_in_units}

ending_alike : (g next : GraphOf) → g.followers ≡ next.followers → (ending : List ℕ) → IsAliveEnding g ending → IsAliveEnding next ending
ending_alike g next same [] alive = tt
ending_alike g next same (j ∷ ending) alive = (subst (λ (f : List ℕ). bit_at (get_or f j 0) (first_of ending) ≡ 1) same alive.0, ending_alike g next same ending alive.1)

pub route_alike : (g next : GraphOf) (route : List ℕ) → IsAlike g next → IsAliveRoute g route → IsAliveRoute next route
route_alike g next route alike is = record {
  is_ending = record {
    known = subst (λ n. All (λ j. (1 ≤ j) × (j < n)) route) alike.places is.is_ending.known;
    once = is.is_ending.once;
    light = subst (λ n. load_in_units next route ≤ n) alike.capacity (subst (λ (d : List ℕ). sum_by (λ j. get_or d j 0) route ≤ g.capacity) alike.demands is.is_ending.light);
    alive = ending_alike g next alike.followers route is.is_ending.alive;
  };
  start = subst (λ (f : List ℕ). bit_at (get_or f 0 0) (first_of route) ≡ 1) alike.followers is.start;
}
