use Rattle.std.proofs.Common.{◌≡◌, ◌<◌, ℕ, get_or, length}
use Rattle.std.specs.Int.{bit_at}
use Rattle.vrp_duals.specs.Folding.{bits_of}
use Rattle.vrp_duals.specs.declared.rows.SubsetRow.{SubsetRow}
use Rattle.vrp_duals.proofs.tables.memories.Given as goal

abbrev pub invariant-loop-place : goal.invariant-loop-place
invariant-loop-place l = record {
  long : length l.sets.items ≡ l.place;
  each : (k : ℕ) → k < length l.sets.items → get_or l.sets.items k 0 ≡ bits_of (λ (row : SubsetRow). bit_at row.memory k) l.rows;
}
