use Rattle.std.proofs.Common.{◌+◌, ◌*◌, ℕ, Global, Vec, List, length}
use Rattle.vrp_routes.specs.Merge.{AreMerged, AreRanges}
use Rattle.vrp_routes.specs.declared.label.Label.{Label}
use Rattle.vrp_routes.specs.declared.merge.TheConstants.{PARENTS_AT_ONCE}
use Rattle.vrp_routes.proofs.merge.append_ranges.Given as goal

-- the labels of the ranges before this one are there
abbrev pub invariant-loop-index : goal.invariant-loop-index
invariant-loop-index g l = (parts : List (Vec (Label g.row.X.Denot) Global)) (from : ℕ) → AreMerged parts (length parts) 0 from l.fn.merged.items → AreRanges parts from PARENTS_AT_ONCE l.fn.ranges
    → AreMerged parts (length parts) 0 (from + l.index * PARENTS_AT_ONCE) l.merged.items
