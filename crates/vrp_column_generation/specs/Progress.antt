-- How far the passes have come: the arcs that are left, and a lower bound.
use Rattle.vrp_model.specs.Problem.{Problem}
use Rattle.std.specs.Prelude.{◌≡◌}
use Rattle.vrp_priced_routes.specs.Arcs.{ArcsOf}
use Rattle.vrp_routes.specs.declared.plan_range.PlanRange.{PlanRange}

-- arcs for plans of this problem in this range
pub record AreFor (problem : Problem) (range : PlanRange) (arcs : ArcsOf) : Type 0 where
  pub problem_is : arcs.problem ≡ problem
  pub range_is : arcs.range ≡ range
