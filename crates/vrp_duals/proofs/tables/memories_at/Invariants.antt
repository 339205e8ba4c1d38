use Rattle.std.proofs.Common.{◌≡◌, take}
use Rattle.std.specs.Int.{bit_at}
use Rattle.vrp_duals.specs.Folding.{bits_of}
use Rattle.vrp_duals.specs.declared.rows.SubsetRow.{SubsetRow}
use Rattle.vrp_duals.proofs.tables.memories_at.Given as goal

abbrev pub invariant-loop-index : goal.invariant-loop-index
invariant-loop-index l = l.set ≡ bits_of (λ (row : SubsetRow). bit_at row.memory l.place) (take l.index l.rows)
