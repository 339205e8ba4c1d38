use Rattle.std.proofs.Common.{◌≡◌, ℕ, ◌+◌, ◌-◌, ◌*◌, ◌<◌, ◌≤◌, List, length, get_or, subst, sym, ap, ◌∙◌, arith}
use Rattle.vrp_model.specs.Problem.{Problem, demand_of, place_count}
use Rattle.vrp_bound.specs.Inner.CompletionCells.{HasWalk, IsLeastCell}
use Rattle.vrp_bound.specs.Inner.Scope.{IsScope}
use Rattle.vrp_bound.specs.Inner.Units.{in_units}
use Rattle.vrp_bound.specs.NgWalks.{nothing_near}
use Rattle.vrp_bound.proofs.FirstStep.{IsStep, least_at_once}
use Rattle.vrp_bound.proofs.LeastOfCosts.{IsCostBelow, least_none}
use Rattle.vrp_bound.proofs.ArcsLookedAt.{behind_is_so_far, step_looked, step_skipped, steps_looked}
use Rattle.vrp_bound.proofs.walks.least_walk.Goals.{then-customer-at+then-demand-load, else-customer-at, else-customer-at-via-then-customer-at+else-demand-load, else-customer-at-via-else-customer-at}
use Rattle.vrp_bound.proofs.walks.least_walk.Goals as goal

-- the cell behind a first stop is there
behind : (p : Problem) (among demands cells : List ℕ) (places at load k stop : ℕ) → IsScope p among → demands ≡ p.demands → places ≡ place_count p → length cells ≡ load * place_count p + at → k < length among → stop ≡ get_or among k 0 → get_or demands stop 0 ≤ load → (load - get_or demands stop 0) * places + stop < length cells
behind p among demands cells places at load k stop scope same counted next inside is fits =
    let demand_is : get_or demands stop 0 ≡ demand_of p (get_or among k 0) = ap (λ (ds : List ℕ). get_or ds stop 0) same ∙ ap (demand_of p) is in
    let row : load * places ≡ load * place_count p = ap (λ n. load * n) counted in
    let before = behind_is_so_far load (get_or demands stop 0) places stop at (omega (arith, demand_is, scope.demands k 0 inside)) fits (omega (arith, is, counted, scope.places k 0 inside)) in
    omega (arith, before, next, row)

pub returns-then-load-eq0-clause-least : goal.returns-then-load-eq0-clause-least
returns-then-load-eq0-clause-least c =
    let p = in_units c.args.scope.unit c.args.scope.instance.now in
    let among = c.args.scope.customers.now in
    subst (λ load. IsLeastCell (HasWalk p nothing_near among c.args.at load) c.weight.result) (sym c.if-load-eq0.true)
    (subst (IsLeastCell (HasWalk p nothing_near among c.args.at 0)) (sym c.weight.ensures.value) (least_at_once p nothing_near among c.args.at c.args.scope.scope))

pub loop-customer-preserved : goal.loop-customer-preserved
loop-customer-preserved c =
    let p = in_units c.args.scope.unit c.args.scope.instance.now in
    let among = c.args.scope.customers.now in
    let k = c.loop-customer.customer-index in
    let places : c.args.scope.places ≡ place_count p = c.args.scope.counted in
    let stop = c.from-stop.result in
    let demand = get_or c.args.demands.now stop 0 in
    let demand_is : demand ≡ demand_of p (get_or among k 0) = ap (λ (ds : List ℕ). get_or ds stop 0) c.requires.demands ∙ ap (demand_of p) c.from-stop.ensures in
    elim c.if-customer-at.branch [
      | then-customer-at+then-demand-load w ↦
          let index = (c.args.load - demand) * c.args.scope.places + stop in
          let is : index ≡ (c.args.load - demand_of p (get_or among k 0)) * place_count p + get_or among k 0 = cc (places, c.from-stop.ensures, demand_is) in
          record {
            least = step_looked p nothing_near among c.args.cells.now c.args.at c.args.load k index c.loop-customer.least c.if-customer-at.least c.args.scope.scope c.requires.so_far c.requires.next c.loop-customer-test.true
                w.if-customer-at.true (omega (arith, w.if-demand-load.true, demand_is)) is c.loop-customer.invariant.least
                (omega (arith, w.least-is, w.min-least.ensures, w.weight-then-demand-load.ensures.value));
            within = omega (arith, w.least-is, w.min-least.ensures, c.loop-customer.invariant.within);
          }
      | else-customer-at w ↦ record {
        least = subst (IsLeastCell (IsCostBelow (IsStep p nothing_near among c.args.at c.args.load) (k + 1))) (sym w.least-is)
            (step_skipped p nothing_near among c.args.at c.args.load k c.loop-customer.least
            (λ differs fits. elim w.else-customer-at.branch [
              | else-customer-at-via-then-customer-at+else-demand-load w' ↦ absurd (omega (arith, fits, w'.if-demand-load.false, demand_is))
              | else-customer-at-via-else-customer-at w' ↦ absurd (differs (omega (arith, w'.if-customer-at.false)))
            ])
            c.loop-customer.invariant.least);
        within = omega (arith, w.least-is, c.loop-customer.invariant.within);
      }
    ]

pub returns-clause-least : goal.returns-clause-least
returns-clause-least c =
    steps_looked (in_units c.args.scope.unit c.args.scope.instance.now) c.args.scope.customers.now c.args.at c.args.load c.loop-customer.customer-index c.loop-customer.least
    (omega (arith, c.if-load-eq0.false)) (omega (arith, c.loop-customer-test.false, c.loop-customer.auto.customer-index-end)) c.loop-customer.invariant.least

pub weight-requires-clause-to_within : goal.weight-requires-clause-to_within
weight-requires-clause-to_within c = c.args.scope.scope.problem.some_places

pub returns-then-load-eq0-clause-within : goal.returns-then-load-eq0-clause-within
returns-then-load-eq0-clause-within c = omega (arith, c.weight.ensures.small)

pub loop-customer-init : goal.loop-customer-init
loop-customer-init c = record {
  least = least_none (IsStep (in_units c.args.scope.unit c.args.scope.instance.now) nothing_near c.args.scope.customers.now c.args.at c.args.load) 0 (λ arc cost below. absurd (omega (arith, below)));
  within = omega arith;
}

pub offset_bounds-customer-items-customer-index : goal.offset_bounds-customer-items-customer-index
offset_bounds-customer-items-customer-index c = omega (arith, c.loop-customer-test.true, c.ranges.scope.1)

pub bounds-customer-items-customer-index : goal.bounds-customer-items-customer-index
bounds-customer-items-customer-index c = c.loop-customer-test.true

pub offset_bounds-demands-stop : goal.offset_bounds-demands-stop
offset_bounds-demands-stop c = omega (arith, c.from-stop.ensures, c.args.scope.scope.places c.loop-customer.customer-index 0 c.loop-customer-test.true, c.args.scope.scope.problem.few_places)

pub bounds-demands-stop : goal.bounds-demands-stop
bounds-demands-stop c = omega (arith, ap length c.requires.demands, c.args.scope.scope.problem.one_demand_each, c.from-stop.ensures, c.args.scope.scope.places c.loop-customer.customer-index 0 c.loop-customer-test.true)

pub overflow_sub-behind : goal.overflow_sub-behind
overflow_sub-behind c = c.if-demand-load.true

pub overflow_mul-behind : goal.overflow_mul-behind
overflow_mul-behind c = omega (arith, behind (in_units c.args.scope.unit c.args.scope.instance.now) c.args.scope.customers.now c.args.demands.now c.args.cells.now c.args.scope.places c.args.at c.args.load c.loop-customer.customer-index c.from-stop.result c.args.scope.scope c.requires.demands c.args.scope.counted c.requires.next c.loop-customer-test.true c.from-stop.ensures c.if-demand-load.true)

pub overflow_add-behind : goal.overflow_add-behind
overflow_add-behind c = omega (arith, behind (in_units c.args.scope.unit c.args.scope.instance.now) c.args.scope.customers.now c.args.demands.now c.args.cells.now c.args.scope.places c.args.at c.args.load c.loop-customer.customer-index c.from-stop.result c.args.scope.scope c.requires.demands c.args.scope.counted c.requires.next c.loop-customer-test.true c.from-stop.ensures c.if-demand-load.true)

pub offset_bounds-cells-load : goal.offset_bounds-cells-load
offset_bounds-cells-load c = omega (arith, behind (in_units c.args.scope.unit c.args.scope.instance.now) c.args.scope.customers.now c.args.demands.now c.args.cells.now c.args.scope.places c.args.at c.args.load c.loop-customer.customer-index c.from-stop.result c.args.scope.scope c.requires.demands c.args.scope.counted c.requires.next c.loop-customer-test.true c.from-stop.ensures c.if-demand-load.true)

pub bounds-cells-load : goal.bounds-cells-load
bounds-cells-load c = behind (in_units c.args.scope.unit c.args.scope.instance.now) c.args.scope.customers.now c.args.demands.now c.args.cells.now c.args.scope.places c.args.at c.args.load c.loop-customer.customer-index c.from-stop.result c.args.scope.scope c.requires.demands c.args.scope.counted c.requires.next c.loop-customer-test.true c.from-stop.ensures c.if-demand-load.true

pub overflow_add-weight : goal.overflow_add-weight
overflow_add-weight c = omega (arith, c.weight-then-demand-load.ensures.small, c.requires.so_far.within ((c.args.load - get_or c.args.demands.now c.from-stop.result 0) * c.args.scope.places + c.from-stop.result))

pub returns-clause-within : goal.returns-clause-within
returns-clause-within c = c.loop-customer.invariant.within
