use Rattle.std.proofs.Common.{◌≡◌, ◌≤◌, true}
use Rattle.vrp_model.specs.Route.{load_of}
use Rattle.vrp_model.proofs.FittingPlans.{at_route, route_among_places, up_to_route}
use Rattle.vrp_model.proofs.plan.Plan.overloads_no_truck.Goals as goal

pub is_carried-requires : goal.is_carried-requires
is_carried-requires c = (route_among_places c.args.instance.now c.args.self.now.routes c.loop-index.index c.route.result.now c.requires c.route.ensures).places

pub returns-then-not-is_carried : goal.returns-then-not-is_carried
returns-then-not-is_carried c =
    let p = c.args.instance.now in (
      λ never. absurd (cc),
      λ all. absurd (
          let carried : c.is_carried.result ≡ true = c.is_carried.ensures.1 (at_route (λ r. load_of p r ≤ p.capacity) c.args.self.now.routes c.loop-index.index c.route.result.now c.route.ensures all) in
          cc),
    )

pub loop-index-preserved : goal.loop-index-preserved
loop-index-preserved c =
    let p = c.args.instance.now in
    up_to_route (λ r. load_of p r ≤ p.capacity) c.args.self.now.routes c.loop-index.index c.route.result.now c.route.ensures c.loop-index.invariant (c.is_carried.ensures.0 c.if-not-is_carried.false)
