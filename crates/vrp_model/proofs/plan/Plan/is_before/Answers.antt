use Rattle.std.proofs.Common.{◌≡◌, ◌∷◌, ap, refl, ◌∙◌}
use Rattle.std.specs.Ordering.{is_lt, is_some_and, nat_cmp}
use Rattle.std.specs.Cmp.Lexicographic.{slice_cmp, lists_agrees}
use Rattle.vrp_model.specs.Route.{PricedPlan}
use Rattle.vrp_model.proofs.Ordered.{before_when_less}
use Rattle.vrp_model.specs.Word.{word_of}
use Rattle.vrp_model.proofs.plan.Plan.is_before.Goals as goal

pub returns : goal.returns
returns c =
    let plan = c.args.self.now in
    let other = c.args.other.now in
    let cost : c.self.inside.cost ≡ plan.cost = ap (λ (p : PricedPlan). p.cost) c.self.view_is in
    let other_cost : c.other.inside.cost ≡ other.cost = ap (λ (p : PricedPlan). p.cost) c.other.view_is in
    let compared : c.lt.result ≡ is_lt (slice_cmp nat_cmp (c.self.inside.cost ∷ c.word.result.now) (c.other.inside.cost ∷ c.word-2.result.now)) =
    c.lt.ensures ∙ ap (is_some_and is_lt) (lists_agrees {R = nat_cmp} (λ x y. refl) (c.self.inside.cost ∷ c.word.result.now) (c.other.inside.cost ∷ c.word-2.result.now)) in
    before_when_less plan.cost (word_of plan.routes) other.cost (word_of other.routes) c.lt.result (rw (cost, c.word.ensures.value, other_cost, c.word-2.ensures.value) at compared)
