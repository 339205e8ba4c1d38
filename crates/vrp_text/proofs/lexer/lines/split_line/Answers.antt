use Rattle.std.proofs.Common.{◌==◌, arith}
use Rattle.vrp_text.proofs.LineLemmas.{split_found, split_last}
use Rattle.vrp_text.proofs.lexer.lines.split_line.Goals as goal

pub returns-in-Some : goal.returns-in-Some
returns-in-Some c = (
  grind arith,
  split_found (λ byte. byte == 10) c.args.bytes.now c.in-Some.end c.in-Some.ensures.0 c.in-Some.ensures.1,
)

pub returns-in-None : goal.returns-in-None
returns-in-None c = split_last (λ byte. byte == 10) c.args.bytes.now c.in-None.ensures
