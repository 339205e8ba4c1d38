use Rattle.std.proofs.Common.{rules, ◌≡◌, ◌<◌, get_or, length, sym, ◌∙◌, arith}
use Rattle.std.proofs.lemmas.List.{get_or_default}
use Rattle.std.specs.Cmp.Lexicographic.{same_text}
use Rattle.vrp_routes.specs.ClosedLevel.{route_with}
use Rattle.vrp_routes.specs.Pool.{RouteOf, no_route}
use Rattle.vrp_routes.proofs.PoolSteps.{same_route}
use Rattle.vrp_routes.proofs.pool.RoutePool.has.Goals as goal

pub returns : goal.returns
returns c = λ yes.
    let pool = c.args.self.now in
    let at = c.in-Some.field-0.now in
    let here : RouteOf = get_or pool at no_route in
    let within : at < length pool = omega arith in
    let stops : c.in_ok-own.own.items ≡ c.args.stops.now = sym c.as_slice.ensures.value ∙ same_text c.as_slice.result.now c.args.stops.now (sym yes ∙ c.eq.ensures) in
    let set : here.set ≡ c.args.route.now.set = search rules in
    let load : here.load ≡ c.args.route.now.load = search rules in
    let cost : here.cost ≡ c.args.route.now.cost = search rules in (
      at,
      within,
      get_or_default pool at (route_with c.args.stops.now c.args.route.now) no_route within
          ∙ same_route here c.args.stops.now c.args.route.now (sym c.in_ok-own.ensures ∙ stops) set load cost,
    )
