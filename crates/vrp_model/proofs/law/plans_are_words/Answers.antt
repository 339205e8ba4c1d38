use Rattle.vrp_model.proofs.PlanWords.{word_of_plan}
use Rattle.vrp_model.proofs.law.plans_are_words.Goals as goal

pub returns : goal.returns
returns c = word_of_plan
