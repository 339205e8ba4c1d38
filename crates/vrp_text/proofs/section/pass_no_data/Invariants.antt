use Rattle.std.proofs.Common.{length}
use Rattle.vrp_text.proofs.SectionLemmas.{PassesLines}
use Rattle.vrp_text.proofs.section.pass_no_data.Given as goal

abbrev pub invariant-loop-line : goal.invariant-loop-line
invariant-loop-line l = PassesLines l.fn.lines l.lines

abbrev pub decreases-loop-line : goal.decreases-loop-line
decreases-loop-line l = length l.lines.lines
