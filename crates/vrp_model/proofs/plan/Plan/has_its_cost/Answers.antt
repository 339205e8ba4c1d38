use Rattle.std.proofs.Common.{◌+◌, arith}
use Rattle.vrp_model.proofs.FittingPlans.{cost_more, cost_of_canonical, route_among_places}
use Rattle.vrp_model.proofs.plan.Plan.has_its_cost.Goals as goal

pub route_cost-cost-requires-clause-places : goal.route_cost-cost-requires-clause-places
route_cost-cost-requires-clause-places c = (route_among_places c.args.instance.now c.args.self.now.routes c.loop-index.index c.route.result.now c.requires.served c.route.ensures).places

pub route_cost-cost-requires-clause-few : goal.route_cost-cost-requires-clause-few
route_cost-cost-requires-clause-few c =
    let among = route_among_places c.args.instance.now c.args.self.now.routes c.loop-index.index c.route.result.now c.requires.served c.route.ensures in
    omega (arith, among.few, c.requires.problem.few_places)

pub returns-then-left-cost : goal.returns-then-left-cost
returns-then-left-cost c =
    let p = c.args.instance.now in
    let routes = c.args.self.now.routes in (
      λ never. absurd (cc),
      λ same. absurd (omega (arith, same, cost_more p routes c.loop-index.index c.route.result.now c.route.ensures, cost_of_canonical p routes (c.loop-index.index + 1), c.loop-index.invariant, c.route_cost-cost.ensures.value, c.if-left-cost.true)),
    )

pub loop-index-preserved : goal.loop-index-preserved
loop-index-preserved c =
    omega (arith, cost_more c.args.instance.now c.args.self.now.routes c.loop-index.index c.route.result.now c.route.ensures, c.loop-index.invariant, c.route_cost-cost.ensures.value, c.if-left-cost.false)
