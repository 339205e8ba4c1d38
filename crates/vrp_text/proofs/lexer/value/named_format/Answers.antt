use Rattle.std.proofs.Common.{rules}
use Rattle.vrp_text.proofs.lexer.value.named_format.Goals as goal

pub returns-then-eq-4 : goal.returns-then-eq-4
returns-then-eq-4 c = search rules
