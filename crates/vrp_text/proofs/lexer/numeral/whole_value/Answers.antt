use Rattle.std.proofs.Common.{arith, ap, ◌∙◌, Some}
use Rattle.std.proofs.lemmas.Int.{ints}
use Rattle.vrp_text.proofs.NumeralLemmas.{quotient_fits, whole_value_is, minus_sign, no_sign}
use Rattle.vrp_text.proofs.lexer.numeral.whole_value.Goals as goal

pub overflow_sub-result : goal.overflow_sub-result
overflow_sub-result c =
    let fits = quotient_fits c.args.numeral c.from.result c.pow.result c.in_ok-value.field-0 c.requires c.from.ensures c.pow.ensures c.in_ok-value.ensures.small in
    omega (arith, ints)

pub returns-then-numeral : goal.returns-then-numeral
returns-then-numeral c =
    let fits = quotient_fits c.args.numeral c.from.result c.pow.result c.in_ok-value.field-0 c.requires c.from.ensures c.pow.ensures c.in_ok-value.ensures.small in
    ap Some (minus_sign c.args.numeral.negative c.in_ok-value.field-0 c.if-numeral.true fits)
    ∙ whole_value_is c.args.numeral c.from.result c.pow.result c.in_ok-value.field-0 c.from.ensures c.pow.ensures c.in_ok-value.ensures.value

pub returns-else-numeral : goal.returns-else-numeral
returns-else-numeral c =
    let fits = quotient_fits c.args.numeral c.from.result c.pow.result c.in_ok-value.field-0 c.requires c.from.ensures c.pow.ensures c.in_ok-value.ensures.small in
    ap Some (no_sign c.args.numeral.negative c.in_ok-value.field-0 c.if-numeral.false fits)
    ∙ whole_value_is c.args.numeral c.from.result c.pow.result c.in_ok-value.field-0 c.from.ensures c.pow.ensures c.in_ok-value.ensures.value
