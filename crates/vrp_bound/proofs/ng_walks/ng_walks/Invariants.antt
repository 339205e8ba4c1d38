use Rattle.std.proofs.Common.{◌≡◌, ◌≤◌, ◌*◌, length}
use Rattle.std.specs.Vec.{vec_capacity}
use Rattle.vrp_bound.specs.Inner.NgCells.{AreNgWalksSoFar}
use Rattle.vrp_model.specs.Near.{near_in}
use Rattle.vrp_bound.specs.Inner.Scaled.{scaled}
use Rattle.vrp_bound.proofs.ng_walks.ng_walks.Given as goal

abbrev pub invariant-loop-load : goal.invariant-loop-load
invariant-loop-load l = record {
  len : length l.cells.items ≡ l.load * l.scope.units.places * l.scope.masks;
  capacity : l.loads * l.scope.units.places * l.scope.masks ≤ vec_capacity l.cells;
  row : length l.row.items ≡ l.scope.masks;
  so_far : AreNgWalksSoFar (scaled l.scope.units) (near_in l.scope.ng_sets.now) l.scope.units.customers.now l.scope.masks l.cells.items;
}
