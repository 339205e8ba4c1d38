use Rattle.std.specs.List.{All}
use Rattle.std.specs.Prelude.{IfSome}
use Rattle.vrp_model.specs.Problem.{place_count}
use Rattle.vrp_model.specs.Route.{IsPlanOf}
use Rattle.vrp_heuristic.specs.Inner.Joints.{IsBetween}
use Rattle.vrp_heuristic.proofs.savings.savings_plan.Given as goal

abbrev pub invariant-loop-tenths : goal.invariant-loop-tenths
invariant-loop-tenths l = record {
  best : IfSome l.best (IsPlanOf l.instance);
  between : All (IsBetween (place_count l.instance)) l.joints.items;
}
