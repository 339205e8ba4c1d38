use Rattle.std.proofs.Common.{◌≡◌}
use Rattle.vrp_heuristic.specs.Inner.Stops.{IsGap}
use Rattle.vrp_model.specs.Problem.{place_count}
use Rattle.vrp_heuristic.proofs.recreate.put_anywhere.Given as goal

abbrev pub invariant-loop-number : goal.invariant-loop-number
invariant-loop-number l = record {
  routes : l.routes ≡ place_count l.setting;
  best : IsGap l.routes l.best.gap;
}
