use Rattle.std.specs.Prelude.{IfSome}
use Rattle.vrp_model.specs.Route.{IsPlanOf}
use Rattle.vrp_heuristic.proofs.heuristic.best_of_round.Given as goal

abbrev pub invariant-loop-run : goal.invariant-loop-run
invariant-loop-run g l =
    (goal.iterator-loop-run g).can_next l.run-iterator ×
    (goal.iterator-loop-run g).is_finite l.run-iterator ×
    IfSome l.best (IsPlanOf l.instance)
