use Rattle.std.proofs.Common.{◌≡◌, length}
use Rattle.std.specs.List.{All}
use Rattle.vrp_model.specs.Problem.{place_count}
use Rattle.vrp_heuristic.specs.Inner.JoinedStops.{IsJoinedStop}
use Rattle.vrp_heuristic.proofs.joined_routes.JoinedRoutes.one_each.Given as goal

abbrev pub invariant-loop-place : goal.invariant-loop-place
invariant-loop-place l = record {
  len : length l.stops.items ≡ l.place;
  stops : All (IsJoinedStop (place_count l.instance)) l.stops.items;
}
