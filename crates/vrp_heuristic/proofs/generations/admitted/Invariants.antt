use Rattle.std.proofs.Common.{◌≤◌}
use Rattle.vrp_model.specs.Route.{IsPlanOf}
use Rattle.vrp_heuristic.proofs.generations.admitted.Given as goal

abbrev pub invariant-loop-run : goal.invariant-loop-run
invariant-loop-run l =
    (goal.iterator-loop-run).can_next l.run-iterator ×
    (goal.iterator-loop-run).is_finite l.run-iterator ×
    IsPlanOf l.setting l.best ×
    (l.best.cost ≤ l.fn.plan.cost)
