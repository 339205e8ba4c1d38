-- From one pass to the next.
use Rattle.std.proofs.Common.{◌∙◌}
use Rattle.vrp_model.specs.Problem.{Problem}
use Rattle.vrp_priced_routes.specs.Arcs.{ArcsOf}
use Rattle.vrp_routes.specs.declared.plan_range.PlanRange.{PlanRange}
use Rattle.vrp_column_generation.specs.Progress.{AreFor}

pub still_for : (p : Problem) (range : PlanRange) (before after : ArcsOf) → AreFor p range before → AreFor before.problem before.range after → AreFor p range after
still_for p range before after were are = record {
  problem_is = are.problem_is ∙ were.problem_is;
  range_is = are.range_is ∙ were.range_is;
}
