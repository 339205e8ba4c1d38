use Rattle.std.proofs.Common.{◌≡◌, ◌∙◌, ◌+◌, ◌++◌, ◌∷◌, [], ◌<◌, ℕ, List, get_or, length, map, ap, sym, subst, arith}
use Rattle.std.proofs.lemmas.List.{get_or_default, length_push}
use Rattle.vrp_partition.specs.Narrowing.{route_at}
use Rattle.vrp_partition.specs.declared.route.Route.{Route}
use Rattle.vrp_partition.proofs.NarrowedRoutes.{all_places, more_at, more_routes}
use Rattle.vrp_partition.proofs.narrowing.all_routes.Goals as goal

abbrev none : Route
none = record { set = 0; cost = 0 }

pub loop-place-init : goal.loop-place-init
loop-place-init c = record {
  long = ap length c.in_ok-places.ensures.items;
  each = λ at lt. absurd (omega (arith, lt, ap length c.in_ok-places.ensures.items));
  are = c.in_ok-routes.ensures.items ∙ sym (ap (map (route_at c.args.pool.now)) c.in_ok-places.ensures.items);
}

pub loop-place-preserved : goal.loop-place-preserved
loop-place-preserved c =
    let place = c.loop-place.place in
    let places = c.in_ok-push.ensures.items in
    let route : c.index-pool-place.result ≡ get_or c.args.pool.now place none = c.index-pool-place.is ∙ get_or_default c.args.pool.now place c.index-pool-place.result none c.loop-place-test.true in
    let routes = c.in_ok-push-2.ensures.items ∙ ap (λ (r : Route). c.loop-place.routes.items ++ r ∷ []) route in
    record {
      long = ap length places ∙ (length_push c.loop-place.places.items place ∙ ap (λ n. n + 1) c.loop-place.invariant.long);
      each = subst (λ (ks : List ℕ). (at : ℕ) → at < length ks → get_or ks at 0 ≡ at) (sym places) (more_at (λ at k. k ≡ at) c.loop-place.places.items place c.loop-place.invariant.each (sym c.loop-place.invariant.long));
      are = routes ∙ (more_routes c.args.pool.now c.loop-place.routes.items c.loop-place.places.items place none c.loop-place-test.true c.loop-place.invariant.are ∙ sym (ap (map (route_at c.args.pool.now)) places));
    }

pub returns : goal.returns
returns c = λ customers trucks fewest limit.
    let all : c.loop-place.place ≡ length c.args.pool.now = omega (arith, c.loop-place-test.false, c.loop-place.auto.place-end) in
    let long = c.loop-place.invariant.long in
    record {
      inside = λ at lt. omega (arith, c.loop-place.invariant.each at lt, lt, long, all);
      are = c.loop-place.invariant.are;
      rest = λ k lt lacks. absurd (lacks (all_places (length c.args.pool.now) c.loop-place.places.items (long ∙ all) (λ at less. c.loop-place.invariant.each at (omega (arith, less, long, all))) k lt));
    }
