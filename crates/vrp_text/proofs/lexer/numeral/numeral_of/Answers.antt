use Rattle.std.proofs.Common.{ap, sym, option_map, arith}
use Rattle.std.proofs.lemmas.Grind.{common_steps}
use Rattle.std.proofs.lemmas.Int.{ints}
use Rattle.vrp_text.specs.Inner.KeptNumeral.{read_numeral}
use Rattle.vrp_text.proofs.LongNumerals.{long_no_numeral}
use Rattle.vrp_text.proofs.lexer.numeral.numeral_of.Goals as goal

pub returns-then-text-gt-MAX_LENGTH-clause-value : goal.returns-then-text-gt-MAX_LENGTH-clause-value
returns-then-text-gt-MAX_LENGTH-clause-value c = sym (ap (option_map read_numeral) (long_no_numeral c.args.text.now c.if-text-gt-MAX_LENGTH.true))

pub returns-in_err-power_of-clause-value : goal.returns-in_err-power_of-clause-value
returns-in_err-power_of-clause-value c = grind (ints, arith, common_steps)

pub returns-clause-value : goal.returns-clause-value
returns-clause-value c = grind (ints, arith, common_steps)
