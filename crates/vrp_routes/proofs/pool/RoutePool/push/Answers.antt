use Rattle.std.proofs.Common.{◌≡◌, ◌++◌, ◌∷◌, ℕ, List, [], Option, IfSome, map, get_or, ap, subst, ◌∙◌, arith}
use Rattle.std.proofs.lemmas.List.{map-append}
use Rattle.vrp_routes.specs.ClosedLevel.{route_by, route_with}
use Rattle.vrp_routes.specs.Pool.{RouteOf}
use Rattle.vrp_routes.specs.declared.closed.ClosedRoute.{ClosedRoute}
use Rattle.vrp_routes.proofs.PoolSteps.{same_view}
use Rattle.vrp_routes.proofs.pool.RoutePool.push.Goals as goal

pub invariant_of-self : goal.invariant_of-self
invariant_of-self c = λ k d lt. omega (arith, c.self.invariant k d lt, c.push_stops.ensures.longer)

pub returns-in_default-clause-same : goal.returns-in_default-clause-same
returns-in_default-clause-same c = λ is. same_view c.self.inside.sequences c.push_stops.new.self c.self.inside.routes.items c.push_stops.ensures.kept c.self.invariant ∙ c.self.view_is

pub returns-clause-added : goal.returns-clause-added
returns-clause-added c = λ is.
    let after = c.push_stops.new.self in
    let routes = c.self.inside.routes.items in
    let route : ClosedRoute = record { set = c.args.route.set; cost = c.args.route.cost; load = c.args.route.load; label = c.in-Some.label } in
    let stops : get_or after c.in-Some.label [] ≡ c.args.stops.now =
    subst (λ (o : Option ℕ). IfSome o (λ number. get_or after number [] ≡ c.args.stops.now)) c.in-Some.is c.in_ok-label.ensures.stops in
    ap (map (route_by after)) c.in_ok-push.ensures.items
    ∙ map-append (route_by after) routes (route ∷ [])
    ∙ ap (λ (xs : List RouteOf). xs ++ route_by after route ∷ []) (same_view c.self.inside.sequences after routes c.push_stops.ensures.kept c.self.invariant ∙ c.self.view_is)
    ∙ ap (λ (xs : List ℕ). c.args.self.now ++ route_with xs c.args.route ∷ []) stops

pub returns-clause-same : goal.returns-clause-same
returns-clause-same c = λ is. absurd (cc)
