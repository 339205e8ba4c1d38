use Rattle.std.proofs.Common.{◌∙◌, get_or, refl}
use Rattle.std.specs.Int.{bit_at}
use Rattle.std.proofs.lemmas.Bool.{false≢true}
use Rattle.std.proofs.lemmas.Nat.Bits.{bit_at-lt}
use Rattle.vrp_duals.specs.declared.rows.SubsetRow.{SubsetRow}
use Rattle.vrp_duals.proofs.RowBits.{bit_clear, bits_with, bits_without}
use Rattle.vrp_duals.proofs.tables.members_at.Goals as goal
use Rattle.vrp_duals.proofs.tables.members_at.Goals.{then-contains, else-contains}

pub loop-index-preserved : goal.loop-index-preserved
loop-index-preserved c =
    let place = c.args.place in
    elim c.if-contains.branch [
      | then-contains w ↦ w.set-is ∙ (w.with-set.ensures ∙ bits_with (λ (row : SubsetRow). bit_at row.customers place) (λ row. bit_at-lt row.customers place) c.args.rows.now c.loop-index.index c.loop-index.set c.index-rows-index.result c.loop-index-test.true c.loop-index.invariant (w.if-contains.ensures.0 refl))
      | else-contains w ↦ w.set-is ∙ bits_without (λ (row : SubsetRow). bit_at row.customers place) c.args.rows.now c.loop-index.index c.loop-index.set c.index-rows-index.result c.loop-index-test.true c.loop-index.invariant (bit_clear (get_or c.args.rows.now c.loop-index.index c.index-rows-index.result).customers place (λ one. false≢true (w.if-contains.ensures.1 one)))
    ]
