use Rattle.std.proofs.Common.{◌≡◌, ◌<◌, ℕ, get_or, length}
use Rattle.vrp_duals.specs.Folding.{bits_of}
use Rattle.vrp_duals.specs.declared.rows.SubsetRow.{SubsetRow}
use Rattle.vrp_duals.proofs.duals.Duals.full_memories.Given as goal

abbrev pub invariant-loop : goal.invariant-loop
invariant-loop l = record {
  long : length l.sets.items ≡ l.counter;
  each : (k : ℕ) → k < length l.sets.items → get_or l.sets.items k 0 ≡ bits_of (λ (row : SubsetRow). 1) l.self.rows;
}
