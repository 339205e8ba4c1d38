use Rattle.std.proofs.Common.{◌≡◌, ◌+◌, length}
use Rattle.std.specs.List.{All}
use Rattle.vrp_heuristic.specs.Inner.Tables.{IsPredecessor}
use Rattle.vrp_heuristic.proofs.split.split.Given as goal

abbrev pub invariant-loop-start : goal.invariant-loop-start
invariant-loop-start l = record {
  len : length l.predecessors.items ≡ length l.tour + 1;
  within : All (IsPredecessor (length l.tour + 1)) l.predecessors.items;
}
