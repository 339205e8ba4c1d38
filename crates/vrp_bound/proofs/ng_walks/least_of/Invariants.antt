use Rattle.std.proofs.Common.{◌≡◌, ℕ, ◌<◌, ◌≤◌, get_or}
use Rattle.vrp_bound.specs.Inner.CompletionCells.{mark}
use Rattle.vrp_bound.proofs.ng_walks.least_of.Given as goal

abbrev pub invariant-loop-cell : goal.invariant-loop-cell
invariant-loop-cell l = record {
  within : l.least ≤ mark;
  low : (m : ℕ) → m < l.cell-index → l.least ≤ get_or l.row m 0;
  met : l.least < mark → (m : ℕ) × (m < l.cell-index) × (get_or l.row m 0 ≡ l.least);
}
