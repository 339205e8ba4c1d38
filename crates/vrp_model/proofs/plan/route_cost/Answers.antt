use Rattle.std.proofs.Common.{◌≡◌, get_or, take, ap, ◌∙◌, sym, arith}
use Rattle.std.proofs.lemmas.List.{take_all}
use Rattle.vrp_model.specs.Problem.{weight_of}
use Rattle.vrp_model.specs.Route.{cost_along}
use Rattle.vrp_model.proofs.Words.{last_behind}
use Rattle.vrp_model.proofs.WordReading.{arc_more, arc_home}
use Rattle.vrp_model.proofs.plan.route_cost.Goals as goal

pub loop-stop-preserved : goal.loop-stop-preserved
loop-stop-preserved c =
    let p = c.args.instance.now in
    let stops = c.args.stops.now in
    let k = c.loop-stop.stop-index in
    let so_far = c.loop-stop.invariant in
    let more = arc_more p stops k c.loop-stop-test.true in
    let weight = c.weight-cost.ensures.value ∙ ap (λ at. weight_of p at (get_or stops k 0)) so_far.2 in
    (omega (arith, so_far.0, more.0, weight), omega (arith, so_far.1, c.weight-cost.ensures.small), sym more.1, c.requires.places k 0 c.loop-stop-test.true)

pub returns-clause-value : goal.returns-clause-value
returns-clause-value c =
    let p = c.args.instance.now in
    let stops = c.args.stops.now in
    let so_far = c.loop-stop.invariant in
    let all : take c.loop-stop.stop-index stops ≡ stops = take_all c.loop-stop.stop-index stops (omega arith) in
    let cost = so_far.0 ∙ ap (cost_along p 0) all in
    let weight = c.weight.ensures.value ∙ ap (λ at. weight_of p at 0) (so_far.2 ∙ ap (last_behind 0) all) in
    omega (arith, cost, weight, arc_home p stops)
