use Rattle.std.proofs.Common.{arith}
use Rattle.std.proofs.lemmas.Grind.{common_steps}
use Rattle.std.proofs.lemmas.Int.{ints}
use Rattle.vrp_canonical.proofs.asked.QuestionWorker.taken_replies.Goals as goal

pub loop-preserved : goal.loop-preserved
loop-preserved g c = grind (ints, arith, common_steps)
