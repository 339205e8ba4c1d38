use Rattle.vrp_duals.specs.Duals.{pairs_of, turns_of}
use Rattle.vrp_duals.proofs.PricedPlans.{least_plan, pairs_take_two, turns_take_two}
use Rattle.vrp_duals.proofs.law.plans_cost_at_least.Goals as goal

pub returns-clause-turns : goal.returns-clause-turns
returns-clause-turns c = least_plan turns_of turns_take_two

pub returns-clause-full : goal.returns-clause-full
returns-clause-full c = least_plan pairs_of pairs_take_two
