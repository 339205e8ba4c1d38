use Rattle.std.proofs.Common.{◌<◌, [], ◌∷◌, ◌++◌, length, length-append, sym, ap, subst, ◌∙◌, arith}
use Rattle.std.specs.List.{All}
use Rattle.std.proofs.lemmas.Bool.Decides.{nat_tests}
use Rattle.vrp_model.specs.Problem.{place_count}
use Rattle.vrp_model.proofs.PlanWords.{lawful_of_closed}
use Rattle.vrp_model.proofs.WordReading.{all_left, all_read, none_read, one_route_more, read_routes_rise, word_is_short}
use Rattle.vrp_model.proofs.plan.Plan.of_word.Goals as goal

pub loop-rest-init : goal.loop-rest-init
loop-rest-init c =
    let p = c.args.instance.now in
    let some : 0 < place_count p = omega (arith, c.customers.ensures.problem.some_places) in
    rw (c.in_ok-plan.ensures.routes, c.in_ok-plan.ensures.cost) (none_read p c.args.word.now c.requires some)

pub route_cost-requires-clause-places : goal.route_cost-requires-clause-places
route_cost-requires-clause-places c =
    all_left (λ k. k < place_count c.args.instance.now) c.split_route.result.0.now (0 ∷ c.split_route.result.1.now)
    (subst (All (λ k. k < place_count c.args.instance.now)) c.split_route.ensures.whole c.loop-rest.invariant.places)

pub route_cost-requires-clause-few : goal.route_cost-requires-clause-few
route_cost-requires-clause-few c =
    let route = c.split_route.result.0.now in
    let short = word_is_short c.args.instance.now c.args.word.now c.customers.ensures.problem c.requires in
    let rest = ap length c.split_route.ensures.whole ∙ length-append route (0 ∷ c.split_route.result.1.now) in
    omega (arith, short, rest, c.loop-rest.invariant.small)

pub with_route-requires-clause-rising : goal.with_route-requires-clause-rising
with_route-requires-clause-rising c =
    let p = c.args.instance.now in
    let word = c.args.word.now in
    let route = c.split_route.result.0.now in
    let behind = c.split_route.result.1.now in
    let more = one_route_more p word c.loop-rest.plan.routes c.loop-rest.plan.cost c.loop-rest.rest.now route behind c.route_cost.result
    c.loop-rest.invariant c.split_route.ensures.whole c.split_route.ensures.stops c.split_route.ensures.some c.split_route.ensures.end c.route_cost.ensures.value c.route_cost.ensures.small in
    read_routes_rise p word (c.loop-rest.plan.routes ++ route ∷ []) behind c.requires more.is more.are_closed more.end

pub with_route-requires-clause-fits : goal.with_route-requires-clause-fits
with_route-requires-clause-fits c =
    let route = c.split_route.result.0.now in
    let short = word_is_short c.args.instance.now c.args.word.now c.customers.ensures.problem c.requires in
    let rest = ap length c.split_route.ensures.whole ∙ length-append route (0 ∷ c.split_route.result.1.now) in
    omega (arith, short, rest, c.loop-rest.invariant.small, c.route_cost.ensures.small)

pub loop-rest-preserved : goal.loop-rest-preserved
loop-rest-preserved c =
    let p = c.args.instance.now in
    let route = c.split_route.result.0.now in
    rw (c.in_ok-plan-2.ensures.routes, c.in_ok-plan-2.ensures.cost)
    (one_route_more p c.args.word.now c.loop-rest.plan.routes c.loop-rest.plan.cost c.loop-rest.rest.now route c.split_route.result.1.now c.route_cost.result
    c.loop-rest.invariant c.split_route.ensures.whole c.split_route.ensures.stops c.split_route.ensures.some c.split_route.ensures.end c.route_cost.ensures.value c.route_cost.ensures.small)

pub returns-clause-word : goal.returns-clause-word
returns-clause-word c = sym (all_read c.args.instance.now c.args.word.now c.loop-rest.plan.routes c.loop-rest.plan.cost c.loop-rest.rest.now c.loop-rest.invariant (grind (arith, nat_tests, c.loop-rest-test.ensures)))

pub returns-clause-lawful : goal.returns-clause-lawful
returns-clause-lawful c =
    let p = c.args.instance.now in
    let word = c.args.word.now in
    let is = all_read p word c.loop-rest.plan.routes c.loop-rest.plan.cost c.loop-rest.rest.now c.loop-rest.invariant (grind (arith, nat_tests, c.loop-rest-test.ensures)) in
    record { lawful = lawful_of_closed p word c.loop-rest.plan.routes c.requires is c.loop-rest.invariant.are_closed; priced = c.loop-rest.invariant.priced }
