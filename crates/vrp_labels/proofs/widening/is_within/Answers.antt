use Rattle.std.proofs.Common.{◌≡◌, ◌∙◌, ap, eq-eqb, sym}
use Rattle.std.specs.Int.RustNames.{bit_xor}
use Rattle.std.proofs.lemmas.Bool.{eqb-true}
use Rattle.vrp_labels.specs.Label.{rows_without}
use Rattle.vrp_labels.proofs.RowExcess.{all_in_other, none_left}
use Rattle.vrp_labels.proofs.widening.is_within.Goals as goal

pub returns : goal.returns
returns c =
    let left = c.symmetric_difference.result in
    let is : left ≡ rows_without c.args.rows c.args.of = c.symmetric_difference.ensures ∙ ap (bit_xor c.args.rows) c.intersection.ensures in (
      λ yes. all_in_other c.args.rows c.args.of (sym is ∙ eqb-true left 0 (sym c.is_empty.ensures ∙ yes)),
      λ each. c.is_empty.ensures ∙ eq-eqb left 0 (is ∙ none_left c.args.rows c.args.of each),
    )
