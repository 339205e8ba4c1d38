use Rattle.std.specs.List.{All}
use Rattle.vrp_model.specs.Problem.{place_count}
use Rattle.vrp_heuristic.specs.Inner.Joints.{IsBetween}
use Rattle.vrp_heuristic.proofs.joint.push_joints.Given as goal

abbrev pub invariant-loop-to : goal.invariant-loop-to
invariant-loop-to l = All (IsBetween (place_count l.instance)) l.joints.items
