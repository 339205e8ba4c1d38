use Rattle.vrp_text.proofs.NumeralLemmas.{CountsDigits}
use Rattle.vrp_text.proofs.lexer.numeral.leading_digits.Given as goal

abbrev pub invariant-loop-byte : goal.invariant-loop-byte
invariant-loop-byte l = CountsDigits l.text l.byte-index l.count
