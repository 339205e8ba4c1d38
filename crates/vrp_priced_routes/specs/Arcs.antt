-- The arcs that feasible plans in a range go along (fixing of arcs by reduced costs; Irnich, Desaulniers, Desrosiers and Hadjar 2010).
use Rattle.std.specs.Prelude.{◌≡◌, ◌≤◌, ℕ, List, [], ◌∷◌, length, slice_index}
use Rattle.std.specs.Int.{bit_at}
use Rattle.std.specs.List.{All}
use Rattle.vrp_model.specs.declared.customers.customer_set.TheConstants.{PLACES}
use Rattle.vrp_model.specs.Problem.{IsProblem, Problem, place_count}
use Rattle.vrp_model.specs.Route.{IsLawful}
use Rattle.vrp_model.specs.declared.limits.TheConstants.{NO_COST}
use Rattle.vrp_routes.specs.Range.{IsInRange}
use Rattle.vrp_routes.specs.declared.plan_range.PlanRange.{PlanRange}

-- a problem, a range of plans, and for each place, as a set, those that may come behind it
pub record ArcsOf : Type 0 where
  pub problem : Problem
  pub range : PlanRange
  pub followers : List ℕ

abbrev pub IsAlive : List ℕ → ℕ → ℕ → Type 0
IsAlive followers from to = bit_at (slice_index followers from) to ≡ 1

-- each arc from a place by the stops to the depot is alive
abbrev pub GoesAlong : List ℕ → ℕ → List ℕ → Type 0
GoesAlong followers at [] = IsAlive followers at 0
GoesAlong followers at (stop ∷ stops) = IsAlive followers at stop × GoesAlong followers stop stops

-- a feasible plan in the range goes along alive arcs alone
pub record HoldPlans (a : ArcsOf) : Type 0 where
  pub problem : IsProblem a.problem
  pub few : place_count a.problem ≤ PLACES
  pub moderate : a.range.limit ≤ NO_COST
  pub long : length a.followers ≡ place_count a.problem
  pub plans : (routes : List (List ℕ)) → IsLawful a.problem routes → IsInRange a.problem a.range routes → All (GoesAlong a.followers 0) routes
