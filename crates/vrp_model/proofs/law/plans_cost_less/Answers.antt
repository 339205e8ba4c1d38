use Rattle.vrp_model.proofs.CostLimit.{below_no_cost}
use Rattle.vrp_model.proofs.law.plans_cost_less.Goals as goal

pub returns : goal.returns
returns c = below_no_cost
