use Rattle.std.proofs.Common.{length}
use Rattle.vrp_plan_text.proofs.LinesRead.{HasRead}
use Rattle.vrp_plan_text.proofs.reading.listing.ListedPlan.read.Given as goal

abbrev pub invariant-loop-line : goal.invariant-loop-line
invariant-loop-line l = HasRead l.instance l.text l.rest l.number l.listing

abbrev pub decreases-loop-line : goal.decreases-loop-line
decreases-loop-line l = length l.rest
