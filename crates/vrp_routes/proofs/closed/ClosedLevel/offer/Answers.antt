use Rattle.std.proofs.Common.{◌≡◌, ◌∙◌, ◌<◌, ◌==◌, if◌then◌else◌, inl, inr, Some, length, refl, ap, sym, subst, arith}
use Rattle.std.proofs.lemmas.List.{get_or_read}
use Rattle.vrp_routes.specs.ClosedLevel.{closed_at, no_closed, place_of}
use Rattle.vrp_routes.specs.declared.closed.ClosedRoute.{ClosedRoute}
use Rattle.vrp_routes.proofs.ClosedSteps.{keeps_places}
use Rattle.vrp_routes.proofs.closed.ClosedLevel.offer.Goals as goal

pub index-requires : goal.index-requires
index-requires c = let lt = (c.requires c.args.route.set c.in-Some.at.now (sym c.in-Some.ensures.value)).0 in omega (arith, lt, c.args.self.now.routes.ok)

pub index_mut-requires : goal.index_mut-requires
index_mut-requires c = let lt = (c.requires c.args.route.set c.in-Some.at.now (sym c.in-Some.ensures.value)).0 in omega (arith, lt, c.args.self.now.routes.ok)

pub returns-then-route-index-clause-offered : goal.returns-then-route-index-clause-offered
returns-then-route-index-clause-offered c =
    let old = c.args.self.now in
    let at = c.in-Some.at.now in
    let there : place_of old c.args.route.set ≡ Some at = sym c.in-Some.ensures.value in
    let read : c.index.result.now ≡ closed_at old at = get_or_read old.routes.items at c.index.result.now (c.requires c.args.route.set at there).0 c.index.ensures no_closed in
    inr (inl (record {
      at = at;
      there = there;
      cheaper = subst (λ (r : ClosedRoute). c.args.route.cost < r.cost) read c.if-route-index.true;
      routes = refl;
      places = λ set. refl;
    }))

pub returns-then-route-index-clause-places : goal.returns-then-route-index-clause-places
returns-then-route-index-clause-places c = keeps_places c.args.self.now _ c.args.route c.requires (returns-then-route-index-clause-offered c)

pub returns-clause-offered : goal.returns-clause-offered
returns-clause-offered c =
    let old = c.args.self.now in
    let route = c.args.route in
    inr (inr (record {
      absent = sym c.in_default.ensures.value;
      routes = c.in_ok-push.ensures.items;
      places = λ set. c.in_ok-insert.ensures.updates.0 set ∙ ap (λ n. if route.set == set then Some n else place_of old set) (let count : c.len.result ≡ length old.routes.items = omega (arith, c.len.ensures, old.routes.ok) in count);
    }))

pub returns-clause-places : goal.returns-clause-places
returns-clause-places c = keeps_places c.args.self.now _ c.args.route c.requires (returns-clause-offered c)
