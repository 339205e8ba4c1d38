use Rattle.std.proofs.Common.{◌∙◌, ◌<◌, ℕ, List, length, map, get_or, arith}
use Rattle.std.specs.List.{All}
use Rattle.std.proofs.lemmas.List.Elements.{All-map, All-weaker}
use Rattle.vrp_model.specs.Problem.{place_count}
use Rattle.vrp_model.proofs.CustomerPlaces.{customer_below, customer_is_some}
use Rattle.vrp_model.proofs.Words.{IsStops, is_stop}
use Rattle.vrp_plan_text.specs.Solution.{AreCustomers}
use Rattle.vrp_plan_text.specs.declared.reading.route.NonemptyRoute.{NonemptyRoute}
use Rattle.vrp_plan_text.proofs.AnsweredPlans.{if_both, if_none}
use Rattle.vrp_plan_text.proofs.OrderedRoutes.{routes_of_plan, word_is_lawful}
use Rattle.vrp_plan_text.proofs.reading.lawful.plan_of.Goals as goal

pub returns-clause-routes : goal.returns-clause-routes
returns-clause-routes c =
    let p = c.args.instance.now in
    let stops : NonemptyRoute → List ℕ = λ r. r.stops.items in
    let listed = map stops c.args.routes.now in
    let some : All (λ r. 0 < length r) listed = All-map (λ r. 0 < length r) stops c.args.routes.now c.requires.stops in
    let free : All IsStops listed =
    All-map IsStops stops c.args.routes.now (All-weaker (λ (r : NonemptyRoute). AreCustomers p (stops r)) (λ (r : NonemptyRoute). IsStops (stops r)) (λ r served k d lt. is_stop (get_or (stops r) k d) (customer_is_some p (get_or (stops r) k d) (served k d lt))) c.args.routes.now c.requires.customers) in
    let within : All (λ r. All (λ k. k < place_count p) r) listed =
    All-map (λ r. All (λ k. k < place_count p) r) stops c.args.routes.now (All-weaker (λ (r : NonemptyRoute). AreCustomers p (stops r)) (λ (r : NonemptyRoute). All (λ k. k < place_count p) (stops r)) (λ r served k d lt. customer_below p (get_or (stops r) k d) (served k d lt)) c.args.routes.now c.requires.customers) in
    let places : 0 < place_count p = omega (arith, c.customers-customers.ensures.value) in
    let word = c.in_ok-word.ensures in
    if_both c.lawful_plan.result _ _ _ (λ plan plan_of has. routes_of_plan p c.symmetric.result listed word.0 c.deref.result.now plan c.symmetric.ensures places word.1 (c.deref.ensures.value ∙ word.2) some free within plan_of has) c.lawful_plan.ensures.lawful c.lawful_plan.ensures.word

pub returns-clause-none : goal.returns-clause-none
returns-clause-none c =
    let p = c.args.instance.now in
    let listed = map (λ (r : NonemptyRoute). r.stops.items) c.args.routes.now in
    let places : 0 < place_count p = omega (arith, c.customers-customers.ensures.value) in
    let word = c.in_ok-word.ensures in
    if_none c.lawful_plan.result _ _ (λ refused lawful. refused (rw (c.deref.ensures.value ∙ word.2) (word_is_lawful p c.symmetric.result listed word.0 places c.symmetric.ensures word.1 lawful))) c.lawful_plan.ensures.none
