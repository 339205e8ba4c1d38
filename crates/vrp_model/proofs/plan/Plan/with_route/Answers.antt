use Rattle.std.proofs.Common.{◌≡◌, ◌∷◌, [], ◌++◌, ap, sym, subst, ◌∙◌, arith}
use Rattle.std.specs.List.Sorted.{IsStrictlyIncreasing}
use Rattle.vrp_model.specs.Route.{PricedPlan}
use Rattle.vrp_model.specs.Word.{first_stops}
use Rattle.std.proofs.lemmas.Grind.{common_steps}
use Rattle.vrp_model.proofs.PlanLemmas.{routes_in_push, ArePlanStops-push}
use Rattle.vrp_model.specs.declared.plan.Span.{Span}
use Rattle.vrp_model.proofs.plan.Plan.with_route.Goals as goal

pub invariant_of-result : goal.invariant_of-result
invariant_of-result c =
    let word = c.self.inside.word.items in
    let route = c.args.stops.now in
    let spans = c.self.inside.routes.items in
    let span : Span = record { start = c.len-start.result; end = c.len-end.result } in
    let appended : c.push.new.self.items ≡ (word ++ route) ++ 0 ∷ [] = c.in_ok-push.ensures.items ∙ ap (λ w. w ++ 0 ∷ []) c.in_ok-extend_from_slice.ensures.items in
    let pushed : c.push-2.new.self.items ≡ spans ++ span ∷ [] = c.in_ok-push-2.ensures.items in
    let rising = subst (λ (plan : PricedPlan). IsStrictlyIncreasing (first_stops (plan.routes ++ route ∷ []))) (sym c.self.view_is) c.requires.rising in
    rw (pushed, appended) (ArePlanStops-push word route spans span c.self.invariant rising (grind (arith, common_steps)) (grind (arith, common_steps)))

pub returns-clause-routes : goal.returns-clause-routes
returns-clause-routes c =
    let word = c.self.inside.word.items in
    let route = c.args.stops.now in
    let spans = c.self.inside.routes.items in
    let span : Span = record { start = c.len-start.result; end = c.len-end.result } in
    let appended : c.push.new.self.items ≡ (word ++ route) ++ 0 ∷ [] = c.in_ok-push.ensures.items ∙ ap (λ w. w ++ 0 ∷ []) c.in_ok-extend_from_slice.ensures.items in
    let pushed : c.push-2.new.self.items ≡ spans ++ span ∷ [] = c.in_ok-push-2.ensures.items in
    rw (pushed, appended, ← c.self.view_is) (routes_in_push word route spans span c.self.invariant.within (grind (arith, common_steps)) (grind (arith, common_steps)))
