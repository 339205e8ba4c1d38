use Rattle.std.proofs.Common.{◌≤◌}
use Rattle.vrp_model.specs.Route.{IsPlanOf}
use Rattle.vrp_heuristic.proofs.generations.after_runs.Given as goal

abbrev pub invariant-loop-index : goal.invariant-loop-index
invariant-loop-index g l = record {
  lawful : IsPlanOf l.setting l.best;
  no_costlier : l.best.cost ≤ l.fn.plan.cost;
}
