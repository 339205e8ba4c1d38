use Rattle.std.proofs.Common.{◌≤◌, ◌∙◌, ◌/◌, ◌++◌, ◌∷◌, [], length, map, ap, sym, arith}
use Rattle.std.proofs.lemmas.List.{length-map, length-take, take_all}
use Rattle.vrp_bound.proofs.WholeUnits.{demands_more}
use Rattle.vrp_bound.proofs.units.demands_in_units.Goals as goal

pub loop-place-preserved : goal.loop-place-preserved
loop-place-preserved c =
    let scope = c.args.scope in
    let demand = c.demand-demand.result in
    let units = c.whole_units.result in
    let more = demands_more scope.unit scope.instance.now c.loop-place.place demand units scope.some (omega (arith, c.loop-place-test.true, scope.counted, scope.scope.problem.one_demand_each)) c.demand-demand.ensures.value c.whole_units.ensures in
    record {
      items = c.push_reserved.ensures.items ∙ ap (λ items. items ++ units ∷ []) c.loop-place.invariant.items ∙ sym more;
      capacity = omega (arith, c.push_reserved.ensures.capacity, c.loop-place.invariant.capacity);
    }

pub overflow_cast-place-end : goal.overflow_cast-place-end
overflow_cast-place-end c = omega (arith, c.args.scope.counted, c.args.scope.scope.problem.few_places)

pub loop-place-init : goal.loop-place-init
loop-place-init c = record { items = c.in_ok-demands.ensures.items; capacity = c.in_ok-demands.ensures.capacity }

pub demand-demand-requires : goal.demand-demand-requires
demand-demand-requires c = omega (arith, c.loop-place-test.true, c.args.scope.counted)

pub push_reserved-requires : goal.push_reserved-requires
push_reserved-requires c =
    let scope = c.args.scope in
    let demands = map (λ demand. demand / scope.unit) scope.instance.now.demands in
    let len = ap length c.loop-place.invariant.items ∙ length-take c.loop-place.place demands in
    omega (arith, len, c.loop-place-test.true, c.loop-place.invariant.capacity)

pub returns : goal.returns
returns c =
    let scope = c.args.scope in
    let demands = map (λ demand. demand / scope.unit) scope.instance.now.demands in
    let all : length demands ≤ c.loop-place.place = omega (arith, length-map scope.instance.now.demands (λ demand. demand / scope.unit), scope.scope.problem.one_demand_each, scope.counted, c.loop-place-test.false) in
    c.loop-place.invariant.items ∙ take_all c.loop-place.place demands all
