use Rattle.vrp_duals.specs.Duals.{pairs_of, turns_of}
use Rattle.vrp_duals.proofs.PricedPlans.{priced_plan, pairs_take_two, turns_take_two}
use Rattle.vrp_duals.proofs.law.prices_bound_plans.Goals as goal

pub returns-clause-turns : goal.returns-clause-turns
returns-clause-turns c = priced_plan turns_of turns_take_two

pub returns-clause-full : goal.returns-clause-full
returns-clause-full c = priced_plan pairs_of pairs_take_two
