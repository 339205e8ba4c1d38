use Rattle.std.proofs.Common.{◌<◌, length}
use Rattle.vrp_heuristic.proofs.split.mark_starts.Given as goal

abbrev pub invariant-loop : goal.invariant-loop
invariant-loop l = l.at < length l.predecessors
