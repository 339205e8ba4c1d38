use Rattle.std.proofs.Common.{◌∙◌, rules, FitsSigned, arith}
use Rattle.std.proofs.lemmas.Grind.{common_steps}
use Rattle.std.proofs.lemmas.Int.{to_z-of_z, ints}
use Rattle.std.specs.Int.{w128}
use Rattle.vrp_text.specs.Numeral.{numeral_of}
use Rattle.vrp_text.proofs.NumeralLemmas.{number_read}
use Rattle.vrp_text.proofs.lexer.numeral.number.Goals as goal

pub returns-clause-value : goal.returns-clause-value
returns-clause-value c =
    let value = c.in-Some-whole_value.value in
    let low_fits = c.ranges.low in
    let high_fits = c.ranges.high in
    let value_fits : FitsSigned w128 value = search rules in
    let answer = simp to_z-of_z at c.in_range.ensures.value in
    answer ∙ number_read c.args.low c.args.high (numeral_of c.args.token.now) c.in-Some.numeral value c.in-Some.ensures.value c.in-Some-whole_value.ensures

pub returns-in_default-clause-value : goal.returns-in_default-clause-value
returns-in_default-clause-value c = grind (ints, arith, common_steps)
