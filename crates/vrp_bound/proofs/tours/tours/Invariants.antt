use Rattle.std.proofs.Common.{◌≡◌, ◌≤◌, length}
use Rattle.std.specs.Vec.{vec_capacity}
use Rattle.vrp_bound.specs.Inner.CompletionCells.{AreToursSoFar}
use Rattle.vrp_bound.specs.Inner.Scaled.{near_by}
use Rattle.vrp_bound.specs.Inner.Units.{in_units}
use Rattle.vrp_bound.proofs.tours.tours.Given as goal

abbrev pub invariant-loop-rest : goal.invariant-loop-rest
invariant-loop-rest l = record {
  next : length l.cells.items ≡ l.rest;
  capacity : l.count ≤ vec_capacity l.cells;
  so_far : AreToursSoFar (in_units l.scope.unit l.scope.instance.now) (near_by l.scope) l.scope.customers.now l.cells.items;
}
