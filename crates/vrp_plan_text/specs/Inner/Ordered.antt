-- The routes of a solution in the order of a word, each oriented to run forward.
use Rattle.std.specs.Prelude.{◌≡◌, ℕ, ◌==◌, Bool, if◌then◌else◌, min, List, map, reverse, slice_index}
use Rattle.std.specs.List.Sorted.{IsNonDecreasing, IsPermutation}
use Rattle.vrp_model.specs.Word.{last_symbol}
use Rattle.vrp_model.specs.Problem.{IsSymmetric, Problem}
use Rattle.vrp_model.specs.Route.{AreTurned, plan_cost}

-- the stop where a route starts: in a symmetric problem the lower of its ends
abbrev pub start_of : Bool → List ℕ → ℕ
start_of symmetric stops = if symmetric then min (slice_index stops 0) (last_symbol stops) else slice_index stops 0

-- the route, reversed if it starts at its other end
abbrev pub turned : Bool → List ℕ → List ℕ
turned symmetric stops = if start_of symmetric stops == slice_index stops 0 then stops else reverse stops

-- these routes, in the order of their starts
pub record AreOrdered (symmetric : Bool) (listed ordered : List (List ℕ)) : Type 0 where
  pub same : IsPermutation listed ordered
  pub rising : IsNonDecreasing (map (start_of symmetric) ordered)

-- the plan's routes are these in some order, each as listed or, only in a symmetric problem, reversed; and they cost as much
pub record AreRoutesOf (p : Problem) (listed routes : List (List ℕ)) : Type 0 where
  pub ordered : List (List ℕ)
  pub same : IsPermutation listed ordered
  pub turned : AreTurned ordered routes
  pub as_listed : (IsSymmetric p → ⊥) → routes ≡ ordered
  pub cost : plan_cost p routes ≡ plan_cost p listed
