-- The leaves of a branch on the number of routes: what is known of a leaf by itself.
use Rattle.std.specs.Prelude.{◌≤◌, ℕ, List}
use Rattle.std.specs.List.{All, Contains}
use Rattle.vrp_model.specs.Order.{IsCanonical}
use Rattle.vrp_model.specs.Problem.{Problem}
use Rattle.vrp_model.specs.Route.{PricedPlan}
use Rattle.vrp_partition.specs.Choice.{IsChoice, cost_of, routes_to, set_of}
use Rattle.vrp_partition.specs.declared.route.Route.{Route}
use Rattle.vrp_routes.specs.Range.{IsInRange}
use Rattle.vrp_routes.specs.declared.plan_range.PlanRange.{PlanRange}

-- if the canonical plan is in the range, it costs no less
abbrev pub BoundsLeaf : Problem → PlanRange → ℕ → Type 0
BoundsLeaf p range bound = (plan : PricedPlan) → IsCanonical p plan → IsInRange p range plan.routes → bound ≤ plan.cost

-- a choice of these routes with at least so many routes that costs no more than the limit has only kept ones
abbrev pub KeepsChoices : List Route → ℕ → ℕ → ℕ → ℕ → List Route → Type 0
KeepsChoices routes customers trucks fewest limit kept = (parts : List Route) → IsChoice set_of routes customers trucks parts
    → fewest ≤ routes_to customers parts → cost_of parts ≤ limit → All (Contains kept) parts
