use Rattle.std.proofs.Common.{◌≡◌, ◌≤◌, ◌*◌, length}
use Rattle.std.specs.Vec.{vec_capacity}
use Rattle.vrp_bound.specs.Inner.CompletionCells.{AreWalksSoFar}
use Rattle.vrp_bound.specs.Inner.Units.{in_units}
use Rattle.vrp_bound.specs.NgWalks.{nothing_near}
use Rattle.vrp_bound.proofs.walks.plain_walks.Given as goal

abbrev pub invariant-loop-load : goal.invariant-loop-load
invariant-loop-load l = record {
  len : length l.cells.items ≡ l.load * l.scope.places;
  capacity : l.loads * l.scope.places ≤ vec_capacity l.cells;
  so_far : AreWalksSoFar (in_units l.scope.unit l.scope.instance.now) nothing_near l.scope.customers.now l.cells.items;
}
