use Rattle.std.proofs.Common.{length}
use Rattle.vrp_text.proofs.SectionLemmas.{ReadsLines}
use Rattle.vrp_text.proofs.section.read_numbers.Given as goal

abbrev pub invariant-loop-line : goal.invariant-loop-line
invariant-loop-line l = ReadsLines l.section l.fn.lines l.numbers.items l.lines

abbrev pub decreases-loop-line : goal.decreases-loop-line
decreases-loop-line l = length l.lines.lines
