use Rattle.std.proofs.Common.{length}
use Rattle.vrp_text.specs.Line.{tokens_of}
use Rattle.vrp_text.proofs.SectionLemmas.{ReadsTokens}
use Rattle.vrp_text.proofs.section.read_line.Given as goal

abbrev pub invariant-loop-token : goal.invariant-loop-token
invariant-loop-token l = ReadsTokens l.section (tokens_of l.fn.text) l.fn.numbers.items l.numbers.items l.tokens

abbrev pub decreases-loop-token : goal.decreases-loop-token
decreases-loop-token l = length l.tokens
