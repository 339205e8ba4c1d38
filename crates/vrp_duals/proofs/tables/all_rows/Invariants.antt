use Rattle.std.proofs.Common.{◌≡◌, take}
use Rattle.vrp_duals.specs.Folding.{bits_of}
use Rattle.vrp_duals.specs.declared.rows.SubsetRow.{SubsetRow}
use Rattle.vrp_duals.proofs.tables.all_rows.Given as goal

abbrev pub invariant-loop-index : goal.invariant-loop-index
invariant-loop-index l = l.set ≡ bits_of (λ (row : SubsetRow). 1) (take l.index l.rows)
