use Rattle.std.proofs.Common.{◌<◌}
use Rattle.vrp_heuristic.proofs.routes.Routes.push_route.Given as goal

abbrev pub invariant-loop : goal.invariant-loop
invariant-loop l = l.walk.at < l.self
