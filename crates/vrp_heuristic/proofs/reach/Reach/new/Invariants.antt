use Rattle.std.proofs.Common.{◌≡◌, vec_len}
use Rattle.vrp_heuristic.proofs.reach.Reach.new.Given as goal

abbrev pub invariant-loop-from : goal.invariant-loop-from
invariant-loop-from l = vec_len l.farthest ≡ l.from
