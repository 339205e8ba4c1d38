use Rattle.std.proofs.Common.{length}
use Rattle.vrp_plan_text.proofs.writing.points.push_numbers.Given as goal

abbrev pub decreases-loop-token : goal.decreases-loop-token
decreases-loop-token l = length l.tokens
