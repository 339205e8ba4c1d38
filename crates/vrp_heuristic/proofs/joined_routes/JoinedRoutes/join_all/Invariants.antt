use Rattle.std.proofs.Common.{◌≡◌}
use Rattle.std.specs.List.{All}
use Rattle.vrp_model.specs.Problem.{place_count}
use Rattle.vrp_heuristic.specs.Inner.Joints.{IsBetween}
use Rattle.vrp_heuristic.proofs.joined_routes.JoinedRoutes.join_all.Given as goal

abbrev pub invariant-loop-joint : goal.invariant-loop-joint
invariant-loop-joint l = record {
  places : l.self ≡ place_count l.instance;
  between : All (IsBetween (place_count l.instance)) l.joints;
}
