use Rattle.std.proofs.Common.{◌≡◌, ◌<◌, ℕ, get_or, length, map}
use Rattle.vrp_duals.specs.declared.rows.SubsetRow.{SubsetRow}
use Rattle.vrp_duals.proofs.tables.row_prices.Given as goal

abbrev pub invariant-loop-index : goal.invariant-loop-index
invariant-loop-index l = record {
  long : length l.prices.items ≡ l.index;
  each : (k : ℕ) → k < length l.prices.items → get_or l.prices.items k 0 ≡ get_or (map (λ (row : SubsetRow). row.price) l.rows) k 0;
}
