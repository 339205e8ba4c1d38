use Rattle.std.proofs.Common.{bit_and, eq-eqb, sym, ◌∙◌}
use Rattle.std.proofs.lemmas.Bool.{eqb-true}
use Rattle.vrp_duals.proofs.RowBits.{part_bits, part_of_bits}
use Rattle.vrp_duals.proofs.checks.is_remembered.Goals as goal

pub returns : goal.returns
returns c =
    let a = c.args.row.now.customers in
    let b = c.args.row.now.memory in (
      λ yes. part_bits a b (eqb-true (bit_and a b) a (sym c.is_subset.ensures ∙ yes)),
      λ each. c.is_subset.ensures ∙ eq-eqb (bit_and a b) a (part_of_bits a b each),
    )
