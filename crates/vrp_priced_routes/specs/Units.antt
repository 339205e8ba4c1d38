-- Demands in units, as labels count them.
use Rattle.std.specs.Prelude.{◌≡◌, ◌≢◌, ◌≤◌, ◌<◌, ℕ, List, length, slice_index}
use Rattle.std.specs.List.{All, AllPairs, Contains, sum_by}
use Rattle.vrp_model.specs.Problem.{Problem, customers, place_count}
use Rattle.vrp_model.specs.Route.{load_of}

-- different customers whom one truck can carry
pub record IsCarried (p : Problem) (route : List ℕ) : Type 0 where
  pub known : All (Contains (customers p)) route
  pub once : AllPairs (λ a b. a ≢ b) route
  pub light : load_of p route ≤ p.capacity

-- demands and a capacity: each customer demands something, and what one truck can carry is within the capacity here too
pub record CarryRoutes (p : Problem) (demands : List ℕ) (capacity : ℕ) : Type 0 where
  pub long : length demands ≡ place_count p
  pub some : (place : ℕ) → 1 ≤ place → place < length demands → 1 ≤ slice_index demands place
  pub routes : (route : List ℕ) → IsCarried p route → sum_by (slice_index demands) route ≤ capacity
