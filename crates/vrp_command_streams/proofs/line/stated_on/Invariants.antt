use Rattle.std.proofs.Common.{length}
use Rattle.vrp_text.specs.Inner.LinesLeft.{parts_left}
use Rattle.vrp_command_streams.proofs.line.stated_on.Given as goal

abbrev pub decreases-loop-heading : goal.decreases-loop-heading
decreases-loop-heading l = length (parts_left l.lines)
