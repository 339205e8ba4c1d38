use Rattle.std.proofs.Common.{◌≡◌, ◌≤◌, ◌*◌, ◌+◌, drop}
use Rattle.std.specs.List.{sum_by}
use Rattle.vrp_duals.specs.Duals.{most_pairs}
use Rattle.vrp_duals.specs.declared.limits.TheConstants.{MAX_ROW_PRICE}
use Rattle.vrp_duals.specs.declared.rows.SubsetRow.{SubsetRow}
use Rattle.vrp_duals.proofs.sums.row_sum.Given as goal

abbrev pub invariant-loop-row : goal.invariant-loop-row
invariant-loop-row l = record {
  value : l.sum + sum_by (λ (row : SubsetRow). most_pairs row * row.price) (drop l.row-index l.rows) ≡ sum_by (λ (row : SubsetRow). most_pairs row * row.price) l.rows;
  small : l.sum ≤ 2 * MAX_ROW_PRICE * l.row-index;
}
