use Rattle.std.proofs.Common.{◌≡◌, ◌<◌}
use Rattle.vrp_model.specs.Problem.{place_count}
use Rattle.vrp_heuristic.proofs.ruin.ruin.Given as goal

abbrev pub invariant-loop-rank : goal.invariant-loop-rank
invariant-loop-rank l = record {
  routes : l.routes ≡ place_count l.setting;
  taken : l.taken ≡ place_count l.setting;
  some_left : 0 < l.left;
}
