use Rattle.vrp_model.proofs.TurnedRoutes.{forward_plan}
use Rattle.vrp_model.proofs.law.plans_can_turn.Goals as goal

pub returns : goal.returns
returns c = forward_plan
