use Rattle.vrp_labels.proofs.CheapPlans.{cheap_full, cheap_turns}
use Rattle.vrp_labels.proofs.law.plans_have_cheap_routes.Goals as goal

pub returns-clause-turns : goal.returns-clause-turns
returns-clause-turns c = cheap_turns

pub returns-clause-full : goal.returns-clause-full
returns-clause-full c = cheap_full
