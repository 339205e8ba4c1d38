use Rattle.std.proofs.Common.{◌≡◌, ℕ, ◌+◌, ◌*◌, ◌/◌, ◌%◌, ◌≤◌, length, refl, ap, ◌∙◌, sym, arith, rules}
use Rattle.std.proofs.lemmas.Nat.{div-add-mod', div_below, mod_below, mul-le}
use Rattle.std.proofs.Math.Nat.{div-mul-le_self}
use Rattle.vrp_bound.specs.Tables.{room_of}
use Rattle.vrp_bound.specs.Inner.Units.{in_units}
use Rattle.vrp_bound.proofs.ArcsLookedAt.{row_before}
use Rattle.vrp_bound.proofs.completion_table.completion_table.Goals as goal

-- as many as the quotient are not too many
few_cells : (rows rests : ℕ) → rows ≤ 64000000 / rests → rows * rests ≤ 64000000
few_cells rows rests less = omega (arith, mul-le rows rests (64000000 / rests) rests less (omega arith), div-mul-le_self 64000000 rests)

pub push_row-requires-clause-next : goal.push_row-requires-clause-next
push_row-requires-clause-next c =
    let rooms = c.args.room + 1 in
    let row = c.loop-row.row in
    let same : rooms ≡ room_of (in_units c.args.scope.unit c.args.scope.instance.now) c.args.scope.customers.now + 1 = omega (arith, c.requires.room) in
    let parts : row ≡ row / rooms * (room_of (in_units c.args.scope.unit c.args.scope.instance.now) c.args.scope.customers.now + 1) + row % rooms = sym (div-add-mod' row rooms) ∙ ap (λ n. row / rooms * n + row % rooms) same in
    omega (arith, c.loop-row.invariant.len, ap (λ n. n * length c.args.tours.now) parts)

pub push_row-requires-clause-fits : goal.push_row-requires-clause-fits
push_row-requires-clause-fits c =
    let rows = c.args.scope.places * (c.args.room + 1) in
    omega (arith, row_before c.loop-row.row rows (length c.args.tours.now) c.loop-row-test.true, c.loop-row.invariant.len, c.loop-row.invariant.capacity)

pub overflow_add-rooms : goal.overflow_add-rooms
overflow_add-rooms c = omega (arith, c.requires.room, c.args.scope.scope.light)

pub overflow_mul-rows : goal.overflow_mul-rows
overflow_mul-rows c =
    let few : c.args.scope.places ≤ 1200 = omega (arith, c.args.scope.counted, c.args.scope.scope.problem.few_places) in
    let light : c.args.room + 1 ≤ 200000001 = omega (arith, c.requires.room, c.args.scope.scope.light) in
    omega (arith, mul-le c.args.scope.places (c.args.room + 1) 1200 200000001 few light)

pub nonzero_div-tours : goal.nonzero_div-tours
nonzero_div-tours c = omega (arith, c.requires.tours.all)

pub overflow_mul-rows-2 : goal.overflow_mul-rows-2
overflow_mul-rows-2 c =
    omega (arith, few_cells (c.args.scope.places * (c.args.room + 1)) (length c.args.tours.now) c.if-rows-tours.false)

pub overflow_cast-at : goal.overflow_cast-at
overflow_cast-at c =
    let below = div_below c.loop-row.row (c.args.room + 1) c.args.scope.places (omega arith) c.loop-row-test.true in
    omega (arith, below, c.args.scope.counted, c.args.scope.scope.problem.few_places)

pub push_row-requires-clause-place : goal.push_row-requires-clause-place
push_row-requires-clause-place c =
    let below = div_below c.loop-row.row (c.args.room + 1) c.args.scope.places (omega arith) c.loop-row-test.true in
    omega (arith, below, c.args.scope.counted)

pub push_row-requires-clause-room : goal.push_row-requires-clause-room
push_row-requires-clause-room c = omega (arith, mod_below c.loop-row.row (c.args.room + 1) (omega arith), c.requires.room)

pub returns-then-rows-tours : goal.returns-then-rows-tours
returns-then-rows-tours c = tt

pub returns-in_err-cells : goal.returns-in_err-cells
returns-in_err-cells c = search rules

pub loop-row-init : goal.loop-row-init
loop-row-init c =
    let empty : length c.in_ok-cells.cells.items ≡ 0 = ap length c.in_ok-cells.ensures.items in
    record {
      len = omega (arith, empty);
      capacity = c.in_ok-cells.ensures.capacity;
      so_far = record { each = λ k inside. absurd (omega (arith, inside, empty)) };
    }

pub nonzero_div-at : goal.nonzero_div-at
nonzero_div-at c = omega arith

pub nonzero_rem-row : goal.nonzero_rem-row
nonzero_rem-row c = omega arith

pub push_row-requires-clause-walks : goal.push_row-requires-clause-walks
push_row-requires-clause-walks c = c.requires.walks

pub push_row-requires-clause-tours : goal.push_row-requires-clause-tours
push_row-requires-clause-tours c = c.requires.tours

pub push_row-requires-clause-so_far : goal.push_row-requires-clause-so_far
push_row-requires-clause-so_far c = c.loop-row.invariant.so_far

pub returns-then-not-push_row : goal.returns-then-not-push_row
returns-then-not-push_row c = tt

pub loop-row-smaller : goal.loop-row-smaller
loop-row-smaller c = omega arith

pub loop-row-preserved : goal.loop-row-preserved
loop-row-preserved c = record {
  len = omega (arith, c.if-not-push_row.ensures.len refl, c.loop-row.invariant.len);
  capacity = omega (arith, c.push_row.ensures.capacity, c.loop-row.invariant.capacity);
  so_far = c.if-not-push_row.ensures.so_far refl;
}

pub returns : goal.returns
returns c =
    let rows = c.args.scope.places * (c.args.room + 1) in
    let row : c.loop-row.row ≡ rows = omega (arith, c.loop-row-test.false, c.loop-row.auto.row-end) in
    record {
      so_far = c.loop-row.invariant.so_far;
      all = cc (c.loop-row.invariant.len, row, c.args.scope.counted, c.requires.room, c.requires.tours.all);
      few = omega (arith, ap (λ n. n * length c.args.tours.now) row, c.loop-row.invariant.len, few_cells rows (length c.args.tours.now) c.if-rows-tours.false);
    }
