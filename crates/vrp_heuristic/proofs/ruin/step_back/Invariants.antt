use Rattle.std.proofs.Common.{◌<◌}
use Rattle.vrp_heuristic.proofs.ruin.step_back.Given as goal

abbrev pub invariant-loop : goal.invariant-loop
invariant-loop l = l.at < l.routes
