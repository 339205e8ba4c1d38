use Rattle.std.proofs.Common.{◌≤◌, length, arith}
use Rattle.std.proofs.lemmas.Grind.{common_steps}
use Rattle.std.proofs.lemmas.Int.{ints}
use Rattle.std.specs.Char.{is_ascii_digit}
use Rattle.std.specs.List.{prefix_len}
use Rattle.vrp_text.proofs.NumeralLemmas.{all_are_digits}
use Rattle.vrp_text.proofs.lexer.numeral.power_of_digits.Goals as goal

pub value_after-size-requires-clause-all_digits : goal.value_after-size-requires-clause-all_digits
value_after-size-requires-clause-all_digits c =
    let digits = c.without_sign-digits.result.now in
    let all : length digits ≤ prefix_len is_ascii_digit digits = omega (arith, c.leading_digits.ensures) in
    all_are_digits digits all

pub returns-then-is_minus-clause-value : goal.returns-then-is_minus-clause-value
returns-then-is_minus-clause-value c = grind (ints, arith, common_steps)

pub returns-else-is_minus-clause-value : goal.returns-else-is_minus-clause-value
returns-else-is_minus-clause-value c = grind (ints, arith, common_steps)
