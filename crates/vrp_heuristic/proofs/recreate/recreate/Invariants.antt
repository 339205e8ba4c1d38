use Rattle.std.proofs.Common.{◌≡◌}
use Rattle.vrp_model.specs.Problem.{place_count}
use Rattle.vrp_heuristic.proofs.recreate.recreate.Given as goal

abbrev pub invariant-loop-turn : goal.invariant-loop-turn
invariant-loop-turn l = l.routes ≡ place_count l.setting
