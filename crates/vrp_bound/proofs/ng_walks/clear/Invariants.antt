use Rattle.std.proofs.Common.{◌≡◌, ℕ, ◌<◌, get_or}
use Rattle.vrp_bound.specs.Inner.CompletionCells.{mark}
use Rattle.vrp_bound.proofs.ng_walks.clear.Given as goal

abbrev pub invariant-loop-cell : goal.invariant-loop-cell
invariant-loop-cell l = (m : ℕ) → m < l.cell-index → get_or l.row m 0 ≡ mark
