use Rattle.std.proofs.Common.{◌≡◌, ◌+◌, length}
use Rattle.std.specs.Vec.{vec_capacity}
use Rattle.vrp_bound.specs.Inner.CompletionCells.{IsCompletionTableSoFar}
use Rattle.vrp_bound.specs.Inner.Scaled.{near_by}
use Rattle.vrp_bound.specs.Inner.Units.{in_units}
use Rattle.vrp_bound.proofs.completion_table.push_row.Given as goal

abbrev pub invariant-loop-rest : goal.invariant-loop-rest
invariant-loop-rest l = record {
  len : length l.cells.items ≡ length l.initial.cells.items + l.rest;
  capacity : vec_capacity l.cells ≡ vec_capacity l.initial.cells;
  so_far : IsCompletionTableSoFar (in_units l.scope.unit l.scope.instance.now) (near_by l.scope) l.scope.customers.now l.cells.items;
}
