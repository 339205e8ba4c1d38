use Rattle.vrp_model.proofs.TurnedRoutes.{word_for_plan}
use Rattle.vrp_model.proofs.law.plans_have_words.Goals as goal

pub returns : goal.returns
returns c = word_for_plan
