use Rattle.std.proofs.Common.{◌≡◌, ◌≤◌, ◌*◌, ◌^◌, drop, pos, ◌+ℤ◌, ◌*ℤ◌, unsigned_abs}
use Rattle.vrp_duals.specs.Duals.{int_sum_by}
use Rattle.vrp_duals.specs.declared.rows.EntryRow.{EntryRow}
use Rattle.vrp_duals.proofs.sums.entry_sum.Given as goal

abbrev pub invariant-loop-row : goal.invariant-loop-row
invariant-loop-row l = record {
  value : l.sum +ℤ int_sum_by (λ (row : EntryRow). pos row.count *ℤ row.price) (drop l.row-index l.entries) ≡ int_sum_by (λ (row : EntryRow). pos row.count *ℤ row.price) l.entries;
  small : unsigned_abs l.sum ≤ 2 ^ 49 * l.row-index;
}
