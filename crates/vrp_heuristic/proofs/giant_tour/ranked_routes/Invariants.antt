use Rattle.std.proofs.Common.{◌≤◌}
use Rattle.vrp_heuristic.proofs.giant_tour.ranked_routes.Given as goal

abbrev pub invariant-loop-end : goal.invariant-loop-end
invariant-loop-end l = l.start ≤ l.end
