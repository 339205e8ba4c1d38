use Rattle.std.proofs.Common.{◌≡◌, ◌+◌, ◌*◌, length, subst, sym, arith}
use Rattle.vrp_model.specs.Problem.{place_count}
use Rattle.vrp_bound.specs.Inner.CompletionCells.{AreWalksSoFar}
use Rattle.vrp_bound.specs.Inner.Units.{in_units}
use Rattle.vrp_bound.specs.NgWalks.{nothing_near}
use Rattle.vrp_bound.proofs.FilledTables.{more_walks}
use Rattle.vrp_bound.proofs.walks.push_row.Goals as goal

pub loop-at-preserved : goal.loop-at-preserved
loop-at-preserved c =
    let p = in_units c.args.scope.unit c.args.scope.instance.now in
    let among = c.args.scope.customers.now in
    let at = c.loop-at.at in
    let cells = c.loop-at.cells.items in
    let next : length cells ≡ c.args.load * place_count p + at = omega (arith, c.loop-at.invariant.len, c.requires.next) in
    record {
      len = omega (arith, c.push_reserved.ensures.len, c.loop-at.invariant.len);
      capacity = omega (arith, c.push_reserved.ensures.capacity, c.loop-at.invariant.capacity);
      so_far = subst (AreWalksSoFar p nothing_near among) (sym c.push_reserved.ensures.items)
          (more_walks p nothing_near among cells c.least_walk-cell.result c.args.load at next (omega (arith, c.loop-at-test.true, c.args.scope.counted)) c.loop-at.invariant.so_far c.least_walk-cell.ensures.least c.least_walk-cell.ensures.within);
    }
