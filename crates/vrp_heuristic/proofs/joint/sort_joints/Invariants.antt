use Rattle.std.proofs.Common.{◌≡◌, length}
use Rattle.std.specs.List.{All}
use Rattle.vrp_model.specs.Problem.{place_count}
use Rattle.vrp_heuristic.specs.Inner.Joints.{IsBetween}
use Rattle.vrp_heuristic.proofs.joint.sort_joints.Given as goal

abbrev pub invariant-loop-index : goal.invariant-loop-index
invariant-loop-index l = record {
  len : length l.joints.items ≡ length l.initial.joints.items;
  between : All (IsBetween (place_count l.instance)) l.joints.items;
}
