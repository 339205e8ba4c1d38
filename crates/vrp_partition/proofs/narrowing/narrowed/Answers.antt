use Rattle.std.proofs.Common.{◌≡◌, ◌∙◌, ◌<◌, ℕ, List, length, map, sym, ap, subst}
use Rattle.std.specs.List.{Contains}
use Rattle.vrp_partition.specs.Narrowing.{route_at}
use Rattle.vrp_partition.specs.Prices.{AllFit}
use Rattle.vrp_partition.specs.Pricing.{MarksWithin, StandsInNone}
use Rattle.vrp_partition.proofs.NarrowedRoutes.{fit_kept}
use Rattle.vrp_partition.proofs.narrowing.narrowed.Goals as goal

pub marks_by_prices-requires-clause-fit : goal.marks_by_prices-requires-clause-fit
marks_by_prices-requires-clause-fit g c =
    subst (AllFit c.args.query.now.fleet.demands.now c.args.query.now.fleet.capacity) (sym c.as_slice.ensures.value) (fit_kept c.args.pool.now c.args.kept.routes.items c.args.kept.places.items c.args.query.now.fleet.demands.now c.args.query.now.fleet.capacity c.requires.narrowed.are c.requires.narrowed.inside c.requires.fit)

pub returns : goal.returns
returns g c =
    let pool = c.args.pool.now in
    let places = c.as_slice-2.result.now in
    let same = c.as_slice-2.ensures.value in
    let routes = c.as_slice.result.now in
    let are : routes ≡ map (route_at pool) places = c.as_slice.ensures.value ∙ (c.requires.narrowed.are ∙ ap (map (route_at pool)) (sym same)) in
    let rest = subst (λ (ks : List ℕ). (k : ℕ) → k < length pool → (Contains ks k → ⊥) → StandsInNone pool c.args.query.now.customers c.args.query.now.fleet.trucks c.args.query.now.least_routes c.args.query.now.limit (route_at pool k)) (sym same) c.requires.narrowed.rest in
    let within = subst (MarksWithin routes c.args.query.now.customers c.args.query.now.fleet.trucks c.args.query.now.least_routes c.args.query.now.limit) (sym c.as_slice-marks.ensures.value) c.in_ok-priced.ensures in
    c.in_ok-kept.ensures c.args.query.now.customers c.args.query.now.fleet.trucks c.args.query.now.least_routes c.args.query.now.limit routes are rest within
