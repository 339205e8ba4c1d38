use Rattle.std.proofs.lemmas.Bool.{false≢true}
use Rattle.vrp_duals.proofs.ArcSteps.{none_paid, no_entry_outside}
use Rattle.vrp_duals.proofs.RowBits.{bit_clear}
use Rattle.vrp_duals.proofs.sums.paid.Goals as goal

pub returns-then-not-contains-clause-value : goal.returns-then-not-contains-clause-value
returns-then-not-contains-clause-value c =
    let set = c.args.row.now.customers in
    none_paid set c.args.from c.args.to c.args.row.now.price (no_entry_outside set c.args.from c.args.to (bit_clear set c.args.to (λ one. false≢true (c.if-not-contains.ensures.1 one))))
