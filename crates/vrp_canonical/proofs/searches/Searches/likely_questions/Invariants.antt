use Rattle.std.proofs.Common.{◌-◌, length}
use Rattle.vrp_canonical.proofs.searches.Searches.likely_questions.Given as goal

abbrev pub decreases-loop-index : goal.decreases-loop-index
decreases-loop-index g l = length l.pool - l.index
