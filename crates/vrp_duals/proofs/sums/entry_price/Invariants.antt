use Rattle.std.proofs.Common.{◌≡◌, ◌≤◌, ◌*◌, drop, pos, ◌+ℤ◌, ◌*ℤ◌, unsigned_abs}
use Rattle.vrp_duals.specs.Duals.{entry, int_sum_by}
use Rattle.vrp_duals.specs.declared.limits.TheConstants.{MAX_ENTRY_PRICE}
use Rattle.vrp_duals.specs.declared.rows.EntryRow.{EntryRow}
use Rattle.vrp_duals.proofs.sums.entry_price.Given as goal

abbrev pub invariant-loop-row : goal.invariant-loop-row
invariant-loop-row l = record {
  value : l.sum +ℤ int_sum_by (λ (row : EntryRow). pos (entry row.customers l.from l.to) *ℤ row.price) (drop l.row-index l.entries) ≡ int_sum_by (λ (row : EntryRow). pos (entry row.customers l.from l.to) *ℤ row.price) l.entries;
  small : unsigned_abs l.sum ≤ MAX_ENTRY_PRICE * l.row-index;
}
