use Rattle.std.proofs.Common.{◌∙◌, refl, arith}
use Rattle.vrp_duals.specs.declared.rows.SubsetRow.{SubsetRow}
use Rattle.vrp_duals.proofs.RowBits.{bits_with, no_row}
use Rattle.vrp_duals.proofs.tables.all_rows.Goals as goal

pub loop-index-preserved : goal.loop-index-preserved
loop-index-preserved c = c.with-set.ensures ∙ bits_with (λ (row : SubsetRow). 1) (λ row. omega arith) c.args.rows.now c.loop-index.index c.loop-index.set no_row c.loop-index-test.true c.loop-index.invariant refl
