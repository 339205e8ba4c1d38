use Rattle.vrp_text.proofs.NumeralLemmas.{ReadsOn}
use Rattle.vrp_text.proofs.lexer.numeral.value_after.Given as goal

abbrev pub invariant-loop-digit : goal.invariant-loop-digit
invariant-loop-digit l = ReadsOn l.fn.value l.digits l.digit-index l.number
