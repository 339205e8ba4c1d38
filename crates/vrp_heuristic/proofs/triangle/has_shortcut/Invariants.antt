use Rattle.std.proofs.Common.{◌<◌}
use Rattle.vrp_heuristic.proofs.triangle.has_shortcut.Given as goal

abbrev pub invariant-loop-rank : goal.invariant-loop-rank
invariant-loop-rank l = l.last < l.places
