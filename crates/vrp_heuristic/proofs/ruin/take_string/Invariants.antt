use Rattle.std.proofs.Common.{◌≡◌, ◌<◌}
use Rattle.vrp_model.specs.Problem.{place_count}
use Rattle.vrp_heuristic.proofs.ruin.take_string.Given as goal

abbrev pub invariant-loop-index : goal.invariant-loop-index
invariant-loop-index l = record {
  routes : l.routes ≡ place_count l.setting;
  taken : l.taken ≡ place_count l.setting;
  at : l.at < l.routes;
}
