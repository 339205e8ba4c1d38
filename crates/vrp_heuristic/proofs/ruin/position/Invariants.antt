use Rattle.std.proofs.Common.{◌<◌}
use Rattle.vrp_heuristic.proofs.ruin.position.Given as goal

abbrev pub invariant-loop-index : goal.invariant-loop-index
invariant-loop-index l = l.at < l.routes
