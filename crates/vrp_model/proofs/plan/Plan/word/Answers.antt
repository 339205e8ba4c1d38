use Rattle.std.proofs.Common.{subst, ap, ◌∙◌, ◌≡◌}
use Rattle.std.specs.List.Sorted.{IsStrictlyIncreasing}
use Rattle.vrp_model.specs.Route.{PricedPlan}
use Rattle.vrp_model.specs.Word.{first_stops, word_of}
use Rattle.vrp_model.proofs.PlanWords.{lawful_word_of}
use Rattle.vrp_model.proofs.plan.Plan.word.Goals as goal

pub returns-clause-rising : goal.returns-clause-rising
returns-clause-rising c = subst (λ (plan : PricedPlan). IsStrictlyIncreasing (first_stops plan.routes)) c.self.view_is c.self.invariant.rising

pub returns-clause-lawful : goal.returns-clause-lawful
returns-clause-lawful c p plan_of forward =
    let rising = subst (λ (plan : PricedPlan). IsStrictlyIncreasing (first_stops plan.routes)) c.self.view_is c.self.invariant.rising in
    let is : c.as_slice.result.now ≡ word_of c.args.self.now.routes = c.as_slice.ensures.value ∙ c.self.invariant.is_word ∙ ap (λ (plan : PricedPlan). word_of plan.routes) c.self.view_is in
    rw is (lawful_word_of p c.args.self.now plan_of rising forward)
