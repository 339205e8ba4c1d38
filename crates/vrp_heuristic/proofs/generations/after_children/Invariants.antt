use Rattle.std.proofs.Common.{◌≤◌}
use Rattle.vrp_model.specs.Route.{IsPlanOf}
use Rattle.vrp_heuristic.proofs.generations.after_children.Given as goal

abbrev pub invariant-loop : goal.invariant-loop
invariant-loop g l = record {
  lawful : IsPlanOf l.setting l.best;
  no_costlier : l.best.cost ≤ l.fn.plan.cost;
}
