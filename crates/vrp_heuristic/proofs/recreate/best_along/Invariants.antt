use Rattle.std.proofs.Common.{◌<◌}
use Rattle.vrp_heuristic.specs.Inner.Stops.{IsGap}
use Rattle.vrp_heuristic.proofs.recreate.best_along.Given as goal

abbrev pub invariant-loop : goal.invariant-loop
invariant-loop l = record {
  before : l.before < l.routes;
  at : l.at < l.routes;
  best : IsGap l.routes l.best.gap;
}
