use Rattle.std.proofs.Common.{◌≡◌, length}
use Rattle.vrp_text.specs.Inner.LinesLeft.{parts_left}
use Rattle.vrp_plan_text.proofs.writing.points.read_section.Given as goal

abbrev pub invariant-loop-line : goal.invariant-loop-line
invariant-loop-line l = parts_left l.lines ≡ parts_left l.fn.lines

abbrev pub decreases-loop-line : goal.decreases-loop-line
decreases-loop-line l = length l.lines.lines
