use Rattle.vrp_model.proofs.Rising.{rising_plan}
use Rattle.vrp_model.proofs.law.plans_can_rise.Goals as goal

pub returns : goal.returns
returns c = rising_plan
