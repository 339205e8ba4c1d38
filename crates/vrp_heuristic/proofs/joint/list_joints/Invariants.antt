use Rattle.std.specs.List.{All}
use Rattle.vrp_model.specs.Problem.{place_count}
use Rattle.vrp_heuristic.specs.Inner.Joints.{IsBetween}
use Rattle.vrp_heuristic.proofs.joint.list_joints.Given as goal

abbrev pub invariant-loop-from : goal.invariant-loop-from
invariant-loop-from l = All (IsBetween (place_count l.instance)) l.joints.items
