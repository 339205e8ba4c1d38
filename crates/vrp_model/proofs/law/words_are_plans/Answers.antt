use Rattle.vrp_model.proofs.PlanWords.{plan_of_word}
use Rattle.vrp_model.proofs.law.words_are_plans.Goals as goal

pub returns : goal.returns
returns c = plan_of_word
