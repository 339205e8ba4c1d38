use Rattle.std.proofs.Common.{◌≤◌, Option, subst, sym, ap}
use Rattle.std.specs.Option.{option_map}
use Rattle.vrp_model.specs.Cheapest.{cost_of}
use Rattle.vrp_model.specs.Route.{PricedPlan}
use Rattle.vrp_answer.proofs.BestPlan.{at_most_none}
use Rattle.vrp_answer.proofs.shared.earlier_of.Goals as goal

pub returns-in-None-clause-no_costlier : goal.returns-in-None-clause-no_costlier
returns-in-None-clause-no_costlier c =
    let other = option_map (λ plan. plan.now) c.args.other in
    let none = ap (option_map (λ plan. plan.now)) c.in-None.is in
    subst (λ (one : Option PricedPlan). cost_of other ≤ cost_of one) (sym none)
    (at_most_none c.plans_cost_less.ensures c.args.instance.now other c.customers-customers.ensures.problem c.requires.other)
