use Rattle.std.proofs.Common.{length}
use Rattle.vrp_text.proofs.lexer.numeral.faulty_token.Given as goal

abbrev pub decreases-loop-token : goal.decreases-loop-token
decreases-loop-token l = length l.tokens
