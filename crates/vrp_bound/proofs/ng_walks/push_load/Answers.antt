use Rattle.std.proofs.Common.{◌≡◌, ◌+◌, ◌*◌, ◌<◌, length, subst, sym, ap, arith}
use Rattle.vrp_model.specs.Problem.{place_count}
use Rattle.vrp_bound.proofs.ArcsLookedAt.{row_before}
use Rattle.vrp_bound.specs.Inner.NgCells.{AreNgWalksSoFar}
use Rattle.vrp_model.specs.Near.{near_in}
use Rattle.vrp_bound.proofs.FilledRows.{more_cells}
use Rattle.vrp_bound.specs.Inner.Scaled.{scaled}
use Rattle.vrp_bound.proofs.ng_walks.push_load.Goals as goal

pub fill_row-requires-clause-so_far : goal.fill_row-requires-clause-so_far
fill_row-requires-clause-so_far c =
    let scope = c.args.scope in
    subst (AreNgWalksSoFar (scaled c.args.scope.units) (near_in scope.ng_sets.now) c.args.scope.units.customers.now scope.masks) (sym c.deref.ensures.value) c.loop-at.invariant.so_far

pub fill_row-requires-clause-next : goal.fill_row-requires-clause-next
fill_row-requires-clause-next c = omega (arith, ap length c.deref.ensures.value, c.loop-at.invariant.len, c.requires.next)

pub append-requires : goal.append-requires
append-requires c =
    let p = (scaled c.args.scope.units) in
    let inside : c.loop-at.at < place_count p = omega (arith, c.loop-at-test.true, c.args.scope.units.counted) in
    omega (arith, c.fill_row.auto.row, c.loop-at.invariant.row, c.loop-at.invariant.len, c.loop-at.invariant.capacity, c.requires.fits, row_before c.loop-at.at (place_count p) c.args.scope.masks inside)

pub loop-at-preserved : goal.loop-at-preserved
loop-at-preserved c =
    let scope = c.args.scope in
    let p = (scaled c.args.scope.units) in
    let near = near_in scope.ng_sets.now in
    let among = c.args.scope.units.customers.now in
    let cells = c.loop-at.cells.items in
    let row : length c.fill_row.new.row ≡ scope.masks = omega (arith, c.fill_row.auto.row, c.loop-at.invariant.row) in
    let next : length cells ≡ (c.args.load * place_count p + c.loop-at.at) * scope.masks = omega (arith, c.loop-at.invariant.len, c.requires.next) in
    let inside : c.loop-at.at < place_count p = omega (arith, c.loop-at-test.true, c.args.scope.units.counted) in
    record {
      len = omega (arith, c.append.ensures.len, c.loop-at.invariant.len, row);
      capacity = omega (arith, c.append.ensures.capacity, c.loop-at.invariant.capacity);
      row = row;
      so_far = subst (AreNgWalksSoFar p near among scope.masks) (sym c.append.ensures.items)
          (more_cells p near among scope.masks cells c.fill_row.new.row c.args.load c.loop-at.at next inside row c.loop-at.invariant.so_far c.fill_row.ensures.least c.fill_row.ensures.within);
    }

pub returns-clause-len : goal.returns-clause-len
returns-clause-len c =
    let all : c.loop-at.at ≡ place_count (scaled c.args.scope.units) = omega (arith, c.loop-at-test.false, c.loop-at.auto.at-end, c.args.scope.units.counted) in
    omega (arith, c.loop-at.invariant.len, ap (λ n. n * c.args.scope.masks) all)
