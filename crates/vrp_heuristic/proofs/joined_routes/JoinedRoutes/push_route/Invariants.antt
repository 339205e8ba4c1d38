use Rattle.std.proofs.Common.{◌<◌}
use Rattle.vrp_heuristic.proofs.joined_routes.JoinedRoutes.push_route.Given as goal

abbrev pub invariant-loop : goal.invariant-loop
invariant-loop l = l.at < l.self
