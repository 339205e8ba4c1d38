use Rattle.std.proofs.Common.{length}
use Rattle.vrp_text.specs.Inner.LinesLeft.{parts_left}
use Rattle.vrp_text.proofs.ReadingLemmas.{HasRead}
use Rattle.vrp_text.proofs.reading.read_parts.Given as goal

abbrev pub invariant-loop-heading : goal.invariant-loop-heading
invariant-loop-heading l = HasRead l.explicit (parts_left l.fn.lines) l.keys l.statements (parts_left l.lines)

abbrev pub decreases-loop-heading : goal.decreases-loop-heading
decreases-loop-heading l = length (parts_left l.lines)
