use Rattle.std.proofs.Common.{◌≡◌, ◌≤◌, ◌*◌, length}
use Rattle.std.specs.Vec.{vec_capacity}
use Rattle.vrp_bound.specs.Inner.CompletionCells.{IsCompletionTableSoFar}
use Rattle.vrp_bound.specs.Inner.Scaled.{near_by}
use Rattle.vrp_bound.specs.Inner.Units.{in_units}
use Rattle.vrp_bound.proofs.completion_table.completion_table.Given as goal

abbrev pub invariant-loop-row : goal.invariant-loop-row
invariant-loop-row l = record {
  len : length l.cells.items ≡ l.row * length l.tours;
  capacity : l.rows * length l.tours ≤ vec_capacity l.cells;
  so_far : IsCompletionTableSoFar (in_units l.scope.unit l.scope.instance.now) (near_by l.scope) l.scope.customers.now l.cells.items;
}
