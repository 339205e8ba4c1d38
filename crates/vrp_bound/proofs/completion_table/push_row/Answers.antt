use Rattle.std.proofs.Common.{◌≡◌, ◌+◌, ◌-◌, ◌*◌, ◌<◌, ◌≤◌, ℕ, length, refl, ap, sym, subst, arith}
use Rattle.std.proofs.lemmas.Nat.{mul-le}
use Rattle.vrp_model.specs.Problem.{place_count}
use Rattle.vrp_model.specs.Route.{load_of}
use Rattle.vrp_bound.specs.Inner.CompletionCells.{IsCompletionTableSoFar, HasCompletion, IsLeastCell, IsSmallLeastCell, mark, small_mark}
use Rattle.vrp_bound.specs.Tables.{room_of}
use Rattle.vrp_bound.specs.Inner.Scaled.{near_by}
use Rattle.vrp_bound.specs.Inner.Units.{in_units}
use Rattle.vrp_bound.proofs.FirstTour.{IsCompletionWith}
use Rattle.vrp_bound.proofs.SmallRows.{row_small}
use Rattle.vrp_bound.proofs.ArcsLookedAt.{least_completion_cells, row_before}
use Rattle.vrp_bound.proofs.CompletionTables.{less_cell, more_completions, next_completion}
use Rattle.vrp_bound.proofs.completion_table.push_row.Goals.{then-room-eq0, else-room-eq0, then-room-rest, else-room-rest}
use Rattle.vrp_bound.proofs.completion_table.push_row.Goals as goal

-- the cells of the room before are there
row_there : (at rooms room rests len : ℕ) → 0 < room → len ≡ (at * rooms + room) * rests → rests ≤ len
row_there at rooms room rests len some is = omega (arith, mul-le 1 rests (at * rooms + room) rests (omega arith) (omega arith), is)

pub overflow_mul-walk : goal.overflow_mul-walk
overflow_mul-walk c = omega (arith, row_small c.args.room c.args.scope.places (omega (arith, c.requires.room, c.args.scope.scope.light)) (omega (arith, c.args.scope.counted, c.args.scope.scope.problem.few_places)))

pub overflow_add-walk : goal.overflow_add-walk
overflow_add-walk c = omega (arith, row_small c.args.room c.args.scope.places (omega (arith, c.requires.room, c.args.scope.scope.light)) (omega (arith, c.args.scope.counted, c.args.scope.scope.problem.few_places)), c.from.ensures, c.ranges.at)

pub offset_bounds-walks-room : goal.offset_bounds-walks-room
offset_bounds-walks-room c = omega (arith, row_small c.args.room c.args.scope.places (omega (arith, c.requires.room, c.args.scope.scope.light)) (omega (arith, c.args.scope.counted, c.args.scope.scope.problem.few_places)), c.from.ensures, c.ranges.at)

pub bounds-walks-room : goal.bounds-walks-room
bounds-walks-room c =
    let p = in_units c.args.scope.unit c.args.scope.instance.now in
    let among = c.args.scope.customers.now in
    let row : c.args.room * c.args.scope.places ≡ c.args.room * place_count p = ap (λ n. c.args.room * n) c.args.scope.counted in
    omega (arith, row, row_before c.args.room (room_of p among + 1) (place_count p) (omega (arith, c.requires.room)), c.requires.walks.all, c.requires.place, c.from.ensures)

pub loop-rest-preserved : goal.loop-rest-preserved
loop-rest-preserved c =
    let p = in_units c.args.scope.unit c.args.scope.instance.now in
    let among = c.args.scope.customers.now in
    let at = c.args.at in
    let room = c.args.room in
    let rest = c.loop-rest.rest in
    let cells = c.loop-rest.cells.items in
    let less = c.if-room-eq0.less in
    let whole = c.if-room-rest.whole in
    let rests = c.requires.tours.all in
    let room_within : room < room_of p among + 1 = omega (arith, c.requires.room) in
    let rest_within : rest < load_of p among + 1 = omega (arith, rests, c.loop-rest-test.true) in
    let next : length cells ≡ (at * (room_of p among + 1) + room) * (load_of p among + 1) + rest = omega (arith, c.loop-rest.invariant.len, c.requires.next, ap (λ n. (at * (room_of p among + 1) + room) * n) rests) in
    let none : room ≡ 0 → less ≡ small_mark = λ is. elim c.if-room-eq0.branch [
      | then-room-eq0 w ↦ w.less-is
      | else-room-eq0 w ↦ absurd (omega (arith, is, w.if-room-eq0.false))
    ] in
    let some : 0 < room → IsSmallLeastCell (HasCompletion p (near_by c.args.scope) among at (room - 1) rest) less = λ more. elim c.if-room-eq0.branch [
      | then-room-eq0 w ↦ absurd (omega (arith, more, w.if-room-eq0.true))
      | else-room-eq0 w ↦
          less_cell p (near_by c.args.scope) among cells c.args.tours.now at room rest (w.len.result - length c.args.tours.now) less w.index.result.now c.loop-rest.invariant.so_far c.requires.tours next more room_within rest_within
          (omega (arith, w.len.ensures)) w.less-is w.index.ensures
    ] in
    let index = room * c.args.scope.places + c.from.result in
    let index_is : index ≡ room * place_count p + at = cc (c.args.scope.counted, c.from.ensures) in
    let fits_whole : room ≤ rest → IsLeastCell (IsCompletionWith p (near_by c.args.scope) among at rest room) whole = λ fits. elim c.if-room-rest.branch [
      | then-room-rest w ↦
          subst (IsLeastCell (IsCompletionWith p (near_by c.args.scope) among at rest room)) (sym w.whole-is)
          (least_completion_cells p (near_by c.args.scope) among c.args.walks.now c.args.tours.now at rest room index c.requires.walks c.requires.tours c.requires.place c.requires.room fits (omega (arith, rest_within)) index_is)
      | else-room-rest w ↦ absurd (omega (arith, fits, w.if-room-rest.false))
    ] in
    let no_whole : rest < room → whole ≡ mark = λ more. elim c.if-room-rest.branch [
      | then-room-rest w ↦ absurd (omega (arith, more, w.if-room-rest.true))
      | else-room-rest w ↦ w.whole-is
    ] in
    let cell = next_completion p (near_by c.args.scope) among at room rest less whole c.in-Some.cell c.args.scope.scope (omega (arith, rest_within)) none some fits_whole no_whole c.in-Some.ensures.none (λ is. (c.in-Some.ensures.some is, c.in-Some.ensures.small is)) in
    record {
      len = omega (arith, c.push_reserved.ensures.len, c.loop-rest.invariant.len);
      capacity = omega (arith, c.push_reserved.ensures.capacity, c.loop-rest.invariant.capacity);
      so_far = subst (IsCompletionTableSoFar p (near_by c.args.scope) among) (sym c.push_reserved.ensures.items) (more_completions p (near_by c.args.scope) among cells c.in-Some.cell at room rest room_within rest_within next cell c.loop-rest.invariant.so_far);
    }

pub loop-rest-init : goal.loop-rest-init
loop-rest-init c = record { len = omega arith; capacity = refl; so_far = c.requires.so_far }

pub overflow_sub-len : goal.overflow_sub-len
overflow_sub-len c =
    let before = row_there c.args.at (room_of (in_units c.args.scope.unit c.args.scope.instance.now) c.args.scope.customers.now + 1) c.args.room (length c.args.tours.now) c.args.cells.now.len (omega (arith, c.if-room-eq0.false)) c.requires.next in
    omega (arith, before, c.len.ensures, c.loop-rest.invariant.len)

pub index-requires : goal.index-requires
index-requires c =
    let before = row_there c.args.at (room_of (in_units c.args.scope.unit c.args.scope.instance.now) c.args.scope.customers.now + 1) c.args.room (length c.args.tours.now) c.args.cells.now.len (omega (arith, c.if-room-eq0.false)) c.requires.next in
    omega (arith, before, c.len.ensures, c.loop-rest.invariant.len, c.requires.tours.all)

pub offset_bounds-tours-rest : goal.offset_bounds-tours-rest
offset_bounds-tours-rest c = omega (arith, c.loop-rest-test.true, c.requires.tours.all, c.args.scope.scope.light)

pub bounds-tours-rest : goal.bounds-tours-rest
bounds-tours-rest c = omega (arith, c.loop-rest-test.true)

pub overflow_add-whole : goal.overflow_add-whole
overflow_add-whole c = omega (arith, c.requires.walks.so_far.within (c.args.room * c.args.scope.places + c.from.result), c.requires.tours.so_far.within (c.loop-rest.rest - c.args.room))

pub push_reserved-requires : goal.push_reserved-requires
push_reserved-requires c = omega (arith, c.loop-rest.invariant.len, c.loop-rest.invariant.capacity, c.requires.fits, c.loop-rest-test.true)

pub returns-in-None-clause-capacity : goal.returns-in-None-clause-capacity
returns-in-None-clause-capacity c = c.loop-rest.invariant.capacity

pub returns-clause-len : goal.returns-clause-len
returns-clause-len c = λ _. omega (arith, c.loop-rest.invariant.len, c.loop-rest-test.false, c.loop-rest.auto.rest-end)

pub returns-clause-capacity : goal.returns-clause-capacity
returns-clause-capacity c = c.loop-rest.invariant.capacity

pub returns-clause-so_far : goal.returns-clause-so_far
returns-clause-so_far c = λ _. c.loop-rest.invariant.so_far
