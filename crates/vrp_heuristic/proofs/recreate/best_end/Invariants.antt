use Rattle.vrp_heuristic.proofs.recreate.best_end.Given as goal
use Rattle.vrp_heuristic.specs.Inner.Stops.{IsGap}

abbrev pub invariant-loop-rank : goal.invariant-loop-rank
invariant-loop-rank l = IsGap l.routes l.best.gap
