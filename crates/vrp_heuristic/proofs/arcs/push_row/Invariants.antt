use Rattle.std.proofs.Common.{◌≡◌, ◌+◌, vec_len}
use Rattle.vrp_heuristic.proofs.arcs.push_row.Given as goal

abbrev pub invariant-loop-other : goal.invariant-loop-other
invariant-loop-other l = vec_len l.cells ≡ vec_len l.initial.cells + l.other
