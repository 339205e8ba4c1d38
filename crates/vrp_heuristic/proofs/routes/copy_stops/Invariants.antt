use Rattle.std.proofs.Common.{length}
use Rattle.std.specs.List.{All}
use Rattle.vrp_heuristic.specs.Inner.Stops.{IsStop}
use Rattle.vrp_heuristic.proofs.routes.copy_stops.Given as goal

abbrev pub invariant-loop-place : goal.invariant-loop-place
invariant-loop-place l = All (IsStop (length l.from)) l.to
