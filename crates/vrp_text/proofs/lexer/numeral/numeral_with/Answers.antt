use Rattle.std.proofs.Common.{length, arith, ap, ◌∙◌}
use Rattle.std.specs.Str.Parse.{digits_value_after}
use Rattle.vrp_text.proofs.NumeralLemmas.{one_part_fits, both_fit, numeral_with_is}
use Rattle.vrp_text.proofs.lexer.numeral.numeral_with.Goals as goal

pub value_after-requires-clause-small : goal.value_after-requires-clause-small
value_after-requires-clause-small c = one_part_fits (length c.args.whole.now) (omega arith)

pub value_after-requires-2-clause-small : goal.value_after-requires-2-clause-small
value_after-requires-2-clause-small c = both_fit c.value_after.result (length c.args.whole.now) (length c.args.fraction.now) c.value_after.ensures.small (omega arith)

pub returns-clause-value : goal.returns-clause-value
returns-clause-value c =
    numeral_with_is c.args.negative c.args.whole.now c.args.fraction.now c.args.power c.value_after-2.result (omega arith) (omega arith)
    (c.value_after-2.ensures.value ∙ ap (λ number. digits_value_after 10 number c.args.fraction.now) c.value_after.ensures.value)

pub returns-clause-small : goal.returns-clause-small
returns-clause-small c =
    let room = both_fit c.value_after.result (length c.args.whole.now) (length c.args.fraction.now) c.value_after.ensures.small (omega arith) in
    record { digits = omega (arith, c.value_after-2.ensures.small, room); places = omega arith; power = c.requires.power }
