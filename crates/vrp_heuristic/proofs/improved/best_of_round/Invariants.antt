use Rattle.std.proofs.Common.{◌≤◌}
use Rattle.vrp_model.specs.Route.{IsPlanOf}
use Rattle.vrp_heuristic.proofs.improved.best_of_round.Given as goal

abbrev pub invariant-loop-run : goal.invariant-loop-run
invariant-loop-run g l =
    (goal.iterator-loop-run g).can_next l.run-iterator ×
    (goal.iterator-loop-run g).is_finite l.run-iterator ×
    IsPlanOf l.instance l.best ×
    (l.best.cost ≤ l.fn.plan.cost)
