-- Ranges of plans: by their cost and by the number of their routes.
use Rattle.std.specs.Prelude.{◌⊎◌, ℕ, ◌≤◌, None, List, length}
use Rattle.std.specs.Option.{ForSome, IsSomeAnd}
use Rattle.vrp_model.specs.Problem.{Problem}
use Rattle.vrp_model.specs.Route.{plan_cost}
use Rattle.vrp_routes.specs.declared.plan_range.PlanRange.{PlanRange}

-- all plans that cost no more than this
abbrev pub plans_within : ℕ → PlanRange
plans_within limit = record { limit = limit; least_routes = 0; most_routes = None }

-- the plan costs no more than the limit, and has at least and at most so many routes
pub record IsInRange (p : Problem) (range : PlanRange) (routes : List (List ℕ)) : Type 0 where
  pub cheap : plan_cost p routes ≤ range.limit
  pub many : range.least_routes ≤ length routes
  pub few : ForSome range.most_routes (λ most. length routes ≤ most)

-- each plan of the one range is in the other
pub record IsPart (part range : PlanRange) : Type 0 where
  pub cheap : part.limit ≤ range.limit
  pub many : range.least_routes ≤ part.least_routes
  pub few : ForSome range.most_routes (λ most. IsSomeAnd part.most_routes (λ fewer. fewer ≤ most))

-- each plan of the range is in one of the others
abbrev pub HaveAll : PlanRange → PlanRange → PlanRange → Type 0
HaveAll range one other = (p : Problem) (routes : List (List ℕ)) → IsInRange p range routes → IsInRange p one routes ⊎ IsInRange p other routes
