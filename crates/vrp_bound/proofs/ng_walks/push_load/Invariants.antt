use Rattle.std.proofs.Common.{◌≡◌, ◌+◌, ◌*◌, length}
use Rattle.std.specs.Vec.{vec_capacity}
use Rattle.vrp_bound.specs.Inner.NgCells.{AreNgWalksSoFar}
use Rattle.vrp_model.specs.Near.{near_in}
use Rattle.vrp_bound.specs.Inner.Scaled.{scaled}
use Rattle.vrp_bound.proofs.ng_walks.push_load.Given as goal

abbrev pub invariant-loop-at : goal.invariant-loop-at
invariant-loop-at l = record {
  len : length l.cells.items ≡ length l.initial.cells.items + l.at * l.scope.masks;
  capacity : vec_capacity l.cells ≡ vec_capacity l.initial.cells;
  row : length l.row ≡ l.scope.masks;
  so_far : AreNgWalksSoFar (scaled l.scope.units) (near_in l.scope.ng_sets.now) l.scope.units.customers.now l.scope.masks l.cells.items;
}
