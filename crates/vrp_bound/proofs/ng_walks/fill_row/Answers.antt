use Rattle.std.proofs.Common.{◌≡◌, ℕ, ◌+◌, ◌-◌, ◌*◌, ◌<◌, ◌≤◌, List, length, get_or, subst, sym, ap, ◌∙◌, arith}
use Rattle.std.proofs.lemmas.Nat.{mul-le}
use Rattle.vrp_model.specs.Problem.{demand_of, place_count}
use Rattle.vrp_bound.specs.Inner.CompletionCells.{IsLeastCell, mark}
use Rattle.vrp_bound.proofs.LeastOfCosts.{IsCostBelow}
use Rattle.vrp_bound.specs.Inner.NgCells.{ArePulled}
use Rattle.vrp_model.specs.NgSets.{ng_set_before}
use Rattle.vrp_model.specs.Near.{near_in}
use Rattle.vrp_bound.proofs.FilledRows.{behind_is_so_far, cleared_small, few_near, row_at_once, row_at_once_small, row_of_cells}
use Rattle.vrp_bound.proofs.NgSteps.{IsNgStep, no_steps, step_pulled, step_skipped, steps_looked}
use Rattle.vrp_bound.specs.Inner.Scaled.{scaled}
use Rattle.vrp_bound.proofs.ng_walks.fill_row.Goals.{else-demand-load, then-demand-load}
use Rattle.vrp_bound.proofs.ng_walks.fill_row.Goals as goal

pub returns-then-load-eq0-clause-least : goal.returns-then-load-eq0-clause-least
returns-then-load-eq0-clause-least c =
    let scope = c.args.scope in
    let marked : (m : ℕ) → m < length c.clear.new.row → get_or c.clear.new.row m 0 ≡ mark = λ m inside. c.clear.ensures.marked m (omega (arith, inside, c.clear.ensures.len)) in
    row_at_once (scaled c.args.scope.units) (near_in scope.ng_sets.now) c.args.scope.units.customers.now scope.masks c.args.at c.args.load c.weight.result c.clear.new.row c.args.scope.units.scope
    c.if-load-eq0.true (omega (arith, c.clear.ensures.len, c.requires.row, scope.some)) (omega (arith, c.clear.ensures.len, c.requires.row)) c.weight.ensures.value marked

pub returns-then-load-eq0-clause-within : goal.returns-then-load-eq0-clause-within
returns-then-load-eq0-clause-within c =
    let marked : (m : ℕ) → m < length c.clear.new.row → get_or c.clear.new.row m 0 ≡ mark = λ m inside. c.clear.ensures.marked m (omega (arith, inside, c.clear.ensures.len)) in
    row_at_once_small c.weight.result c.clear.new.row (omega (arith, c.clear.ensures.len, c.requires.row, c.args.scope.some)) c.weight.ensures.small marked

pub loop-customer-init : goal.loop-customer-init
loop-customer-init c =
    let scope = c.args.scope in
    let p = (scaled c.args.scope.units) in
    let near = near_in scope.ng_sets.now in
    let among = c.args.scope.units.customers.now in
    let marked : (m : ℕ) → m < length c.clear.new.row → get_or c.clear.new.row m 0 ≡ mark = λ m inside. c.clear.ensures.marked m (omega (arith, inside, c.clear.ensures.len)) in
    record {
      len = omega (arith, c.clear.ensures.len, c.requires.row);
      least = λ m small. subst (IsLeastCell (IsCostBelow (IsNgStep p near among c.args.at c.args.load m) 0)) (sym (marked m (omega (arith, small, c.clear.ensures.len, c.requires.row)))) (no_steps p near among c.args.at c.args.load m);
      within = cleared_small c.clear.new.row marked;
    }

pub overflow_mul-place : goal.overflow_mul-place
overflow_mul-place c =
    let demand = get_or c.args.scope.demands.now c.from-stop.result 0 in
    omega (arith, mul-le (c.args.load - demand) c.args.scope.units.places 200000000 1200 (omega (arith, c.requires.light)) (omega (arith, c.args.scope.units.counted, c.args.scope.units.scope.problem.few_places)))

pub overflow_add-place : goal.overflow_add-place
overflow_add-place c =
    let demand = get_or c.args.scope.demands.now c.from-stop.result 0 in
    omega (arith, mul-le (c.args.load - demand) c.args.scope.units.places 200000000 1200 (omega (arith, c.requires.light)) (omega (arith, c.args.scope.units.counted, c.args.scope.units.scope.problem.few_places)), c.from-stop.ensures, c.args.scope.units.scope.places c.loop-customer.customer-index 0 c.loop-customer-test.true, c.args.scope.units.scope.problem.few_places)

pub cells_of-behind-requires : goal.cells_of-behind-requires
cells_of-behind-requires c =
    let p = (scaled c.args.scope.units) in
    let k = c.loop-customer.customer-index in
    let stop = get_or c.args.scope.units.customers.now k 0 in
    let demand = get_or c.args.scope.demands.now c.from-stop.result 0 in
    let demand_is : demand ≡ demand_of p stop = ap (λ (ds : List ℕ). get_or ds c.from-stop.result 0) c.args.scope.amounts ∙ ap (demand_of p) c.from-stop.ensures in
    let places : c.args.scope.units.places ≡ place_count p = c.args.scope.units.counted in
    let place : ((c.args.load - demand) * c.args.scope.units.places + c.from-stop.result) * c.args.scope.masks ≡ ((c.args.load - demand_of p stop) * place_count p + stop) * c.args.scope.masks = cc (places, c.from-stop.ensures, demand_is) in
    record {
      fits = omega (
        arith,
        place,
        c.requires.next,
        behind_is_so_far c.args.load (demand_of p stop) (place_count p) stop c.args.at c.args.scope.masks
            (c.args.scope.units.scope.demands k 0 c.loop-customer-test.true) (omega (arith, c.if-demand-load.true, demand_is)) (c.args.scope.units.scope.places k 0 c.loop-customer-test.true),
      );
    }

pub before-before-requires-clause-stop : goal.before-before-requires-clause-stop
before-before-requires-clause-stop c = omega (arith, c.args.scope.units.scope.places c.loop-customer.customer-index 0 c.loop-customer-test.true, c.args.scope.units.counted, c.args.scope.of_places)

pub pull-requires-clause-small : goal.pull-requires-clause-small
pull-requires-clause-small c = λ m small.
    let demand = get_or c.args.scope.demands.now c.from-stop.result 0 in
    omega (arith, c.cells_of-behind.ensures.value m (omega (arith, small, c.loop-customer.invariant.len)), c.requires.so_far.within (((c.args.load - demand) * c.args.scope.units.places + c.from-stop.result) * c.args.scope.masks + m))

pub loop-customer-preserved : goal.loop-customer-preserved
loop-customer-preserved c =
    let scope = c.args.scope in
    let masks = scope.masks in
    let p = (scaled c.args.scope.units) in
    let near = near_in scope.ng_sets.now in
    let among = c.args.scope.units.customers.now in
    let k = c.loop-customer.customer-index in
    let stop = get_or among k 0 in
    let places : c.args.scope.units.places ≡ place_count p = c.args.scope.units.counted in
    let inside : stop < place_count p = c.args.scope.units.scope.places k 0 c.loop-customer-test.true in
    let demand = get_or c.args.scope.demands.now c.from-stop.result 0 in
    let demand_is : demand ≡ demand_of p stop = ap (λ (ds : List ℕ). get_or ds c.from-stop.result 0) c.args.scope.amounts ∙ ap (demand_of p) c.from-stop.ensures in
    elim c.if-demand-load.branch [
      | then-demand-load w ↦
          let place = (c.args.load - demand) * c.args.scope.units.places + c.from-stop.result in
          let place_is : place ≡ (c.args.load - demand_of p stop) * place_count p + stop = cc (places, c.from-stop.ensures, demand_is) in
          let fits : demand_of p stop ≤ c.args.load = omega (arith, w.if-demand-load.true, demand_is) in
          let so_far = behind_is_so_far c.args.load (demand_of p stop) (place_count p) stop c.args.at masks (c.args.scope.units.scope.demands k 0 c.loop-customer-test.true) fits inside in
          let place_masks : place * masks ≡ ((c.args.load - demand_of p stop) * place_count p + stop) * masks = ap (λ n. n * masks) place_is in
          let cells = row_of_cells p near among masks c.args.cells.now w.cells_of-behind.result.now (c.args.load - demand_of p stop) stop place place_is inside (omega (arith, so_far, place_masks, c.requires.next)) c.requires.so_far w.cells_of-behind.ensures.value in
          let row : length c.loop-customer.row ≡ masks = c.loop-customer.invariant.len in
          let weight = w.weight-weight.result in
          let before = subst (λ n. (m : ℕ) → m < n → get_or w.before-before.result.now m 0 ≡ ng_set_before (near c.args.at) (near stop) n c.args.at stop m) (sym scope.bits) w.before-before.ensures.value in
          let pulled : ArePulled weight masks w.cells_of-behind.result.now w.before-before.result.now c.loop-customer.row w.pull.new.row = subst (λ n. ArePulled weight n w.cells_of-behind.result.now w.before-before.result.now c.loop-customer.row w.pull.new.row) row w.pull.ensures in
          subst (λ (xs : List ℕ). record {
            len : length xs ≡ masks;
            least : (m : ℕ) → m < masks → IsLeastCell (IsCostBelow (IsNgStep p near among c.args.at c.args.load m) (k + 1)) (get_or xs m 0);
            within : (m : ℕ) → get_or xs m 0 ≤ mark;
          }) (sym w.row-is)
          (record {
            len = pulled.len ∙ row;
            least = λ m small. step_pulled p near among masks c.args.at c.args.load k weight w.cells_of-behind.result.now w.before-before.result.now c.loop-customer.row w.pull.new.row (few_near scope.ng_sets.now masks scope.bits)
                c.loop-customer-test.true fits w.weight-weight.ensures.value row cells before pulled m small (c.loop-customer.invariant.least m small);
            within = λ m. omega (arith, pulled.kept m, c.loop-customer.invariant.within m);
          })
      | else-demand-load w ↦
          let heavy : c.args.load < demand_of p stop = omega (arith, w.if-demand-load.false, demand_is) in
          let same : c.if-demand-load.row ≡ c.loop-customer.row = w.row-is in
          record {
            len = ap (λ (xs : List ℕ). length xs) same ∙ c.loop-customer.invariant.len;
            least = λ m small. subst (λ (xs : List ℕ). IsLeastCell (IsCostBelow (IsNgStep p near among c.args.at c.args.load m) (k + 1)) (get_or xs m 0)) (sym same) (step_skipped p near among c.args.at c.args.load m k (get_or c.loop-customer.row m 0) heavy (c.loop-customer.invariant.least m small));
            within = λ m. subst (λ (xs : List ℕ). get_or xs m 0 ≤ mark) (sym same) (c.loop-customer.invariant.within m);
          }
    ]

pub returns-clause-least : goal.returns-clause-least
returns-clause-least c = λ m small.
    steps_looked (scaled c.args.scope.units) (near_in c.args.scope.ng_sets.now) c.args.scope.units.customers.now c.args.at c.args.load m c.loop-customer.customer-index (get_or c.loop-customer.row m 0)
    (omega (arith, c.if-load-eq0.false)) (omega (arith, c.loop-customer-test.false, c.loop-customer.auto.customer-index-end)) (c.loop-customer.invariant.least m small)

pub returns-clause-within : goal.returns-clause-within
returns-clause-within c = c.loop-customer.invariant.within

pub weight-requires-clause-to_within : goal.weight-requires-clause-to_within
weight-requires-clause-to_within c = c.args.scope.units.scope.problem.some_places

pub bounds-customer-items-customer-index : goal.bounds-customer-items-customer-index
bounds-customer-items-customer-index c = c.loop-customer-test.true

pub offset_bounds-scope-stop : goal.offset_bounds-scope-stop
offset_bounds-scope-stop c = omega (arith, c.from-stop.ensures, c.args.scope.units.scope.places c.loop-customer.customer-index 0 c.loop-customer-test.true, c.args.scope.units.scope.problem.few_places)

pub bounds-scope-stop : goal.bounds-scope-stop
bounds-scope-stop c =
    omega (arith, ap length c.args.scope.amounts, c.args.scope.units.scope.problem.one_demand_each, c.from-stop.ensures, c.args.scope.units.scope.places c.loop-customer.customer-index 0 c.loop-customer-test.true)

pub before-before-requires-clause-at : goal.before-before-requires-clause-at
before-before-requires-clause-at c = omega (arith, c.requires.place, c.args.scope.of_places, c.args.scope.units.counted)

pub weight-weight-requires-clause-to_within : goal.weight-weight-requires-clause-to_within
weight-weight-requires-clause-to_within c = c.args.scope.units.scope.places c.loop-customer.customer-index 0 c.loop-customer-test.true

pub pull-requires-clause-light : goal.pull-requires-clause-light
pull-requires-clause-light c = omega (arith, c.weight-weight.ensures.small)

pub pull-requires-clause-behind : goal.pull-requires-clause-behind
pull-requires-clause-behind c = c.cells_of-behind.ensures.len ∙ sym c.loop-customer.invariant.len

pub pull-requires-clause-before : goal.pull-requires-clause-before
pull-requires-clause-before c = omega (arith, c.before-before.ensures.len, c.args.scope.bits, c.loop-customer.invariant.len)
