use Rattle.std.proofs.Common.{◌∙◌, ap, bit_and, bit_or}
use Rattle.std.specs.Int.RustNames.{bit_xor}
use Rattle.vrp_duals.proofs.Weighed.{xor_of_both}
use Rattle.vrp_duals.proofs.row_set.RowSet.symmetric_difference.Goals as goal

pub returns : goal.returns
returns c =
    let a = c.self.inside.rows in
    let b = c.other.inside.rows in
    c.union.ensures
    ∙ (ap (λ n. bit_or n c.difference-there.result) c.difference-here.ensures
    ∙ (ap (bit_or (bit_xor a (bit_and a b))) c.difference-there.ensures
    ∙ (xor_of_both a b ∙ (ap (λ n. bit_xor n b) c.self.view_is ∙ ap (bit_xor c.args.self) c.other.view_is))))
