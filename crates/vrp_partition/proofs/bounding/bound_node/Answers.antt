use Rattle.std.proofs.Common.{◌≡◌, ◌<◌, ◌-◌, ℕ, ℤ, pos, ◌≤ℤ◌, ◌<ℤ◌, refl, List, filter, map, IfSome, ◌∙◌, ap, sym, subst, to_z, of_z, w64, SFits, unsigned_abs, rules}
use Rattle.std.proofs.lemmas.Int.{to_z-of_z}
use Rattle.std.specs.List.{All, Contains}
use Rattle.vrp_partition.specs.Choice.{IsCheapest, NoneBelow}
use Rattle.vrp_partition.specs.Covering.{IsLeast, column_of}
use Rattle.vrp_partition.specs.Prices.{AreValid, NoneNegative, Prices, is_within_gap, gap_of}
use Rattle.vrp_partition.specs.Outcome.{IsLeastOf, IsLeft}
use Rattle.vrp_partition.specs.declared.bounding.OpenRoutes.{OpenRoutes}
use Rattle.vrp_partition.specs.declared.prices.TheConstants.{SCALE}
use Rattle.vrp_partition.specs.declared.route.Route.{Route}
use Rattle.vrp_partition.proofs.CheapestChoices.{cheapest_columns, filtered_parts, kept_least, none_negative_pool, none_cheaper, whole_bound}
use Rattle.vrp_partition.proofs.bounding.bound_node.Goals as goal

kept_is : (prices : Prices) (customers trucks incumbent : ℕ) (gap : ℤ) (pool slice kept : List Route) → kept ≡ filter (is_within_gap prices SCALE gap) slice → slice ≡ pool → gap ≡ gap_of prices SCALE customers trucks (incumbent - 1) → kept ≡ filter (is_within_gap prices SCALE (gap_of prices SCALE customers trucks (incumbent - 1))) pool
kept_is prices customers trucks incumbent gap pool slice kept are same is_gap = are ∙ (ap (filter (is_within_gap prices SCALE gap)) same ∙ ap (λ z. filter (is_within_gap prices SCALE z) pool) is_gap)

left_is : (prices : Prices) (customers trucks fewest incumbent : ℕ) (pool kept : List Route) (left : OpenRoutes) → kept ≡ filter (is_within_gap prices SCALE (gap_of prices SCALE customers trucks (incumbent - 1))) pool → left.routes.items ≡ kept
    → AreValid prices pool customers fewest → NoneNegative prices SCALE pool → 0 < incumbent
    → (0 < left.lower_bound → gap_of prices SCALE customers trucks (left.lower_bound - 1) <ℤ pos 0)
    → IsLeft pool customers trucks fewest incumbent left
left_is prices customers trucks fewest incumbent pool kept left are same valid none some negative =
    let is = same ∙ are in
    record {
      parts = subst (All (Contains pool)) (sym is) (filtered_parts (is_within_gap prices SCALE (gap_of prices SCALE customers trucks (incumbent - 1))) pool);
      least = λ limit most below. kept_least prices SCALE customers trucks fewest incumbent pool valid none some limit most (subst (λ routes. NoneBelow routes customers trucks fewest limit) is below);
      bound = whole_bound prices SCALE customers trucks fewest left.lower_bound pool valid none negative;
    }

pub returns-in_default : goal.returns-in_default
returns-in_default c =
    let none = none_negative_pool c.args.priced.now.prices SCALE c.args.pool.now c.args.priced.now.costs.items c.requires.priced.costs c.requires.priced.none in
    none_cheaper c.args.priced.now.prices SCALE c.args.task.now.customers c.args.task.now.fleet.trucks c.args.task.now.least_routes c.args.task.now.incumbent c.args.pool.now c.requires.priced.valid none c.requires.some c.in_default.ensures.none c.new-routes.result.items

pub returns-then-len-gt-MOST_COLUMNS : goal.returns-then-len-gt-MOST_COLUMNS
returns-then-len-gt-MOST_COLUMNS c =
    let none = none_negative_pool c.args.priced.now.prices SCALE c.args.pool.now c.args.priced.now.costs.items c.requires.priced.costs c.requires.priced.none in
    let fits : SFits w64 c.in-Some.gap = search rules in
    let is_gap = to_z-of_z w64 c.in-Some.gap fits ∙ c.in-Some.ensures.value in
    let kept = kept_is c.args.priced.now.prices c.args.task.now.customers c.args.task.now.fleet.trucks c.args.task.now.incumbent (to_z w64 (of_z w64 c.in-Some.gap)) c.args.pool.now c.args.pool.now c.in_ok-routes.routes.items c.in_ok-routes.ensures refl is_gap in
    left_is c.args.priced.now.prices c.args.task.now.customers c.args.task.now.fleet.trucks c.args.task.now.least_routes c.args.task.now.incumbent c.args.pool.now c.in_ok-routes.routes.items (record { routes = c.in_ok-routes.routes; lower_bound = c.whole_lower_bound-lower_bound.result }) kept refl c.requires.priced.valid none c.requires.some c.whole_lower_bound-lower_bound.ensures

pub returns-in-None : goal.returns-in-None
returns-in-None c =
    let none = none_negative_pool c.args.priced.now.prices SCALE c.args.pool.now c.args.priced.now.costs.items c.requires.priced.costs c.requires.priced.none in
    let fits : SFits w64 c.in-Some.gap = search rules in
    let is_gap = to_z-of_z w64 c.in-Some.gap fits ∙ c.in-Some.ensures.value in
    let kept = kept_is c.args.priced.now.prices c.args.task.now.customers c.args.task.now.fleet.trucks c.args.task.now.incumbent (to_z w64 (of_z w64 c.in-Some.gap)) c.args.pool.now c.args.pool.now c.in_ok-routes.routes.items c.in_ok-routes.ensures refl is_gap in
    left_is c.args.priced.now.prices c.args.task.now.customers c.args.task.now.fleet.trucks c.args.task.now.least_routes c.args.task.now.incumbent c.args.pool.now c.in_ok-routes.routes.items (record { routes = c.in_ok-routes.routes; lower_bound = c.whole_lower_bound-lower_bound.result }) kept refl c.requires.priced.valid none c.requires.some c.whole_lower_bound-lower_bound.ensures

pub returns-in-Some-2 : goal.returns-in-Some-2
returns-in-Some-2 c =
    let none = none_negative_pool c.args.priced.now.prices SCALE c.args.pool.now c.args.priced.now.costs.items c.requires.priced.costs c.requires.priced.none in
    let fits : SFits w64 c.in-Some.gap = search rules in
    let is_gap = to_z-of_z w64 c.in-Some.gap fits ∙ c.in-Some.ensures.value in
    let kept = kept_is c.args.priced.now.prices c.args.task.now.customers c.args.task.now.fleet.trucks c.args.task.now.incumbent (to_z w64 (of_z w64 c.in-Some.gap)) c.args.pool.now c.args.pool.now c.in_ok-routes.routes.items c.in_ok-routes.ensures refl is_gap in
    let answer : IsLeastOf (map (column_of c.args.priced.now.prices SCALE) c.as_slice-2.result.now) c.args.task.now.customers c.args.task.now.fleet.trucks c.args.task.now.incumbent (unsigned_abs (to_z w64 (of_z w64 c.in-Some.gap))) c.in-Some-2.chosen =
    subst (λ o. IfSome o (IsLeastOf (map (column_of c.args.priced.now.prices SCALE) c.as_slice-2.result.now) c.args.task.now.customers c.args.task.now.fleet.trucks c.args.task.now.incumbent (unsigned_abs (to_z w64 (of_z w64 c.in-Some.gap))))) c.in-Some-2.is c.in_ok-chosen.ensures in
    let nonneg : pos 0 ≤ℤ gap_of c.args.priced.now.prices SCALE c.args.task.now.customers c.args.task.now.fleet.trucks (c.args.task.now.incumbent - 1) = subst (λ z. pos 0 ≤ℤ z) c.in-Some.ensures.value c.in-Some.ensures.some in
    subst (IsCheapest c.args.pool.now c.args.task.now.customers c.args.task.now.fleet.trucks c.args.task.now.least_routes c.args.task.now.incumbent c.in-Some-2.chosen.cost) (sym answer.routes)
    (cheapest_columns c.args.priced.now.prices SCALE c.args.task.now.customers c.args.task.now.fleet.trucks c.args.task.now.least_routes c.args.task.now.incumbent c.in-Some-2.chosen.cost c.args.pool.now answer.parts c.requires.priced.valid none c.requires.some nonneg
    (subst (λ z. IsLeast (map (column_of c.args.priced.now.prices SCALE) (filter (is_within_gap c.args.priced.now.prices SCALE (gap_of c.args.priced.now.prices SCALE c.args.task.now.customers c.args.task.now.fleet.trucks (c.args.task.now.incumbent - 1))) c.args.pool.now)) c.args.task.now.customers c.args.task.now.fleet.trucks c.args.task.now.incumbent (unsigned_abs z) c.in-Some-2.chosen.cost answer.parts) is_gap
    (subst (λ routes. IsLeast (map (column_of c.args.priced.now.prices SCALE) routes) c.args.task.now.customers c.args.task.now.fleet.trucks c.args.task.now.incumbent (unsigned_abs (to_z w64 (of_z w64 c.in-Some.gap))) c.in-Some-2.chosen.cost answer.parts) (c.as_slice-2.ensures.value ∙ kept) answer.least)))
