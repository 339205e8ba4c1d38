use Rattle.vrp_model.proofs.CanonicalPlans.{same_routes}
use Rattle.vrp_model.proofs.law.equal_words_equal_plans.Goals as goal

pub returns : goal.returns
returns c = same_routes
