use Rattle.std.proofs.Common.{length}
use Rattle.std.specs.List.{All}
use Rattle.vrp_heuristic.specs.Inner.Stops.{IsRoute}
use Rattle.vrp_heuristic.proofs.routes.copy_routes.Given as goal

abbrev pub invariant-loop-number : goal.invariant-loop-number
invariant-loop-number l = All (IsRoute (length l.from)) l.to
