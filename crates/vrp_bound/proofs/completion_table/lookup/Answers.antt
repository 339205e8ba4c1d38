use Rattle.std.proofs.Common.{◌+◌, ◌*◌, ◌-◌, length, get_or, subst, sym, arith}
use Rattle.vrp_bound.specs.Inner.CompletionCells.{HasRelaxed, IsLeastCell}
use Rattle.vrp_bound.specs.Inner.Scaled.{near_by}
use Rattle.vrp_bound.specs.Inner.Units.{in_units}
use Rattle.vrp_bound.proofs.CompletionTables.{cell_none, cell_some, completion_cell, look_up}
use Rattle.vrp_bound.proofs.completion_table.lookup.Goals as goal

pub overflow_mul-cell : goal.overflow_mul-cell
overflow_mul-cell c =
    let at = look_up (in_units c.args.scope.unit c.args.scope.instance.now) (near_by c.args.scope) c.args.scope.customers.now c.args.table.cells.now c.args.table.tours.now c.from.result c.args.table.room c.min-left.result c.args.at c.args.rest c.requires.completion_table c.requires.tours c.requires.room
    (omega (arith, c.min-left.ensures)) c.requires.place c.from.ensures c.requires.rest in
    omega (arith, at.few)

pub overflow_add-cell : goal.overflow_add-cell
overflow_add-cell c =
    let at = look_up (in_units c.args.scope.unit c.args.scope.instance.now) (near_by c.args.scope) c.args.scope.customers.now c.args.table.cells.now c.args.table.tours.now c.from.result c.args.table.room c.min-left.result c.args.at c.args.rest c.requires.completion_table c.requires.tours c.requires.room
    (omega (arith, c.min-left.ensures)) c.requires.place c.from.ensures c.requires.rest in
    omega (arith, at.few)

pub offset_bounds-cells-row : goal.offset_bounds-cells-row
offset_bounds-cells-row c =
    let at = look_up (in_units c.args.scope.unit c.args.scope.instance.now) (near_by c.args.scope) c.args.scope.customers.now c.args.table.cells.now c.args.table.tours.now c.from.result c.args.table.room c.min-left.result c.args.at c.args.rest c.requires.completion_table c.requires.tours c.requires.room
    (omega (arith, c.min-left.ensures)) c.requires.place c.from.ensures c.requires.rest in
    omega (arith, at.few)

pub bounds-cells-row : goal.bounds-cells-row
bounds-cells-row c =
    let at = look_up (in_units c.args.scope.unit c.args.scope.instance.now) (near_by c.args.scope) c.args.scope.customers.now c.args.table.cells.now c.args.table.tours.now c.from.result c.args.table.room c.min-left.result c.args.at c.args.rest c.requires.completion_table c.requires.tours c.requires.room
    (omega (arith, c.min-left.ensures)) c.requires.place c.from.ensures c.requires.rest in
    at.within

pub returns-then-cell-lt-SMALL_MARK : goal.returns-then-cell-lt-SMALL_MARK
returns-then-cell-lt-SMALL_MARK c =
    let p = in_units c.args.scope.unit c.args.scope.instance.now in
    let among = c.args.scope.customers.now in
    let at = look_up p (near_by c.args.scope) among c.args.table.cells.now c.args.table.tours.now c.from.result c.args.table.room c.min-left.result c.args.at c.args.rest c.requires.completion_table c.requires.tours c.requires.room
    (omega (arith, c.min-left.ensures)) c.requires.place c.from.ensures c.requires.rest in
    let k = (c.from.result * (c.args.table.room + 1) + c.min-left.result) * length c.args.table.tours.now + c.args.rest in
    let cell = completion_cell p (near_by c.args.scope) among c.args.table.cells.now k c.args.at c.min-left.result c.args.rest (omega (arith, c.min-left.ensures, c.requires.room)) (omega (arith, c.requires.rest)) at.is at.within c.requires.completion_table.so_far in
    subst (IsLeastCell (HasRelaxed p (near_by c.args.scope) among c.args.at (p.capacity - c.args.free) c.args.rest)) (sym c.from-then-cell-lt-SMALL_MARK.ensures)
    (cell_some p (near_by c.args.scope) among c.args.at (p.capacity - c.args.free) c.args.rest c.min-left.result (get_or c.args.table.cells.now k 0) c.requires.customer (omega arith) c.requires.rest (omega (arith, c.min-left.ensures, c.requires.free, c.requires.room)) cell c.if-cell-lt-SMALL_MARK.true)

pub returns-else-cell-lt-SMALL_MARK : goal.returns-else-cell-lt-SMALL_MARK
returns-else-cell-lt-SMALL_MARK c =
    let p = in_units c.args.scope.unit c.args.scope.instance.now in
    let among = c.args.scope.customers.now in
    let at = look_up p (near_by c.args.scope) among c.args.table.cells.now c.args.table.tours.now c.from.result c.args.table.room c.min-left.result c.args.at c.args.rest c.requires.completion_table c.requires.tours c.requires.room
    (omega (arith, c.min-left.ensures)) c.requires.place c.from.ensures c.requires.rest in
    let k = (c.from.result * (c.args.table.room + 1) + c.min-left.result) * length c.args.table.tours.now + c.args.rest in
    let cell = completion_cell p (near_by c.args.scope) among c.args.table.cells.now k c.args.at c.min-left.result c.args.rest (omega (arith, c.min-left.ensures, c.requires.room)) (omega (arith, c.requires.rest)) at.is at.within c.requires.completion_table.so_far in
    cell_none p (near_by c.args.scope) among c.args.at (p.capacity - c.args.free) c.args.rest c.min-left.result (get_or c.args.table.cells.now k 0) c.requires.customer (omega arith) c.requires.rest (omega (arith, c.min-left.ensures, c.requires.free, c.requires.room)) cell c.if-cell-lt-SMALL_MARK.false
