use Rattle.std.proofs.Common.{rules}
use Rattle.vrp_text.proofs.lexer.lines.Lines.next_heading.Goals as goal

pub returns-in-Some-clause-value : goal.returns-in-Some-clause-value
returns-in-Some-clause-value c = search rules
