-- Routes that can be printed for an instance.
use Rattle.std.specs.Prelude.{ℕ, ◌<◌, ◌≤◌, All, List, length}
use Rattle.vrp_model.specs.declared.limits.TheConstants.{MAX_NODES}
use Rattle.vrp_model.specs.Problem.{Problem, place_count}

-- each of these stops is a place of the problem, and there are no more of them than a plan can have
pub record ArePlaces (p : Problem) (stops : List ℕ) : Type 0 where
  pub within : All (λ place. place < place_count p) stops
  pub few : length stops ≤ MAX_NODES

-- the stops of all these routes are places of the problem
abbrev pub HaveStopsIn : Problem → List (List ℕ) → Type 0
HaveStopsIn p routes = All (ArePlaces p) routes
