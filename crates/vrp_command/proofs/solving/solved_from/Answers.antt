use Rattle.std.proofs.Common.{◌∙◌, Option, subst, sym}
use Rattle.std.specs.Option.{ForSome}
use Rattle.vrp_command.specs.Found.{IsFoundBy}
use Rattle.vrp_command.specs.Inner.Told.{told_outcome}
use Rattle.vrp_command.proofs.Starts.{plan_lent}
use Rattle.vrp_model.specs.Route.{IsPlanOf, PricedPlan}
use Rattle.vrp_command.proofs.solving.solved_from.Goals as goal

pub find-requires-clause-start : goal.find-requires-clause-start
find-requires-clause-start g c = λ κs bounds.
    subst (λ (start : Option PricedPlan). ForSome start (IsPlanOf c.args.problem.instance)) (sym (c.plan_of.ensures ∙ plan_lent _ _ c.as_ref.ensures.value)) c.requires.start

pub returns-in-Ok-clause-found : goal.returns-in-Ok-clause-found
returns-in-Ok-clause-found g c =
    subst (λ (start : Option PricedPlan). IsFoundBy c.args.request (g.G.Gate.may_stop c.args.resources.now.gate.now) c.args.problem.instance start (told_outcome c.args.request.seconds c.in-Ok.outcome))
    (c.plan_of.ensures ∙ plan_lent _ _ c.as_ref.ensures.value) c.in-Ok.ensures.found
