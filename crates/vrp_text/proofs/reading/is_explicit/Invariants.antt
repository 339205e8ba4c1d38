use Rattle.std.proofs.Common.{◌≡◌, length}
use Rattle.vrp_text.specs.Stated.{is_explicit}
use Rattle.vrp_text.specs.Inner.LinesLeft.{parts_left}
use Rattle.vrp_text.proofs.reading.is_explicit.Given as goal

abbrev pub invariant-loop-heading : goal.invariant-loop-heading
invariant-loop-heading l = is_explicit (parts_left l.fn.lines) ≡ is_explicit (parts_left l.lines)

abbrev pub decreases-loop-heading : goal.decreases-loop-heading
decreases-loop-heading l = length (parts_left l.lines)
