use Rattle.std.proofs.Common.{◌≡◌, ◌+◌, length}
use Rattle.std.specs.Vec.{vec_capacity}
use Rattle.vrp_bound.specs.Inner.CompletionCells.{AreWalksSoFar}
use Rattle.vrp_bound.specs.Inner.Units.{in_units}
use Rattle.vrp_bound.specs.NgWalks.{nothing_near}
use Rattle.vrp_bound.proofs.walks.push_row.Given as goal

abbrev pub invariant-loop-at : goal.invariant-loop-at
invariant-loop-at l = record {
  len : length l.cells.items ≡ length l.initial.cells.items + l.at;
  capacity : vec_capacity l.cells ≡ vec_capacity l.initial.cells;
  so_far : AreWalksSoFar (in_units l.scope.unit l.scope.instance.now) nothing_near l.scope.customers.now l.cells.items;
}
