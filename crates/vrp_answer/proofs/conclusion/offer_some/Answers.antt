use Rattle.std.proofs.Common.{Option, ap, subst, sym}
use Rattle.std.specs.Option.{option_map}
use Rattle.vrp_model.specs.Route.{PricedPlan}
use Rattle.vrp_answer.specs.Inner.Conclusion.{IsOfferedTo}
use Rattle.vrp_answer.proofs.BestPlan.{after_offer, nothing_offered}
use Rattle.vrp_answer.proofs.conclusion.offer_some.Goals as goal

pub returns-in_ok-offer : goal.returns-in_ok-offer
returns-in_ok-offer c =
    let offered = after_offer c.in-Some.plan.now c.args.book.now.plan c.offer.new.self.plan c.in_ok-offer.field-0 c.in_ok-offer.ensures.kept c.in_ok-offer.ensures.plan in
    subst (λ (plan : Option PricedPlan). IsOfferedTo c.args.book.now.plan plan c.offer.new.self.plan) (sym (ap (option_map (λ plan. plan.now)) c.in-Some.is)) offered

pub returns-in_default : goal.returns-in_default
returns-in_default c = subst (λ (plan : Option PricedPlan). IsOfferedTo c.args.book.now.plan plan c.args.book.now.plan) (sym (ap (option_map (λ plan. plan.now)) c.in_default.is)) (nothing_offered c.args.book.now.plan)
