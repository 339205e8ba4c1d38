use Rattle.std.proofs.Common.{◌≡◌, ◌++◌, ◌+◌, take}
use Rattle.std.specs.Vec.{vec_capacity, vec_len}
use Rattle.vrp_bound.proofs.ng_walks.append.Given as goal

abbrev pub invariant-loop-cell : goal.invariant-loop-cell
invariant-loop-cell l = record {
  items : l.cells.items ≡ l.initial.cells.items ++ take l.cell-index l.row;
  len : vec_len l.cells ≡ vec_len l.initial.cells + l.cell-index;
  capacity : vec_capacity l.cells ≡ vec_capacity l.initial.cells;
}
