use Rattle.std.proofs.Common.{◌<◌}
use Rattle.vrp_model.specs.Problem.{place_count}
use Rattle.vrp_heuristic.proofs.recombined.route_between.Given as goal

abbrev pub invariant-loop-index : goal.invariant-loop-index
invariant-loop-index l = l.last < place_count l.instance
