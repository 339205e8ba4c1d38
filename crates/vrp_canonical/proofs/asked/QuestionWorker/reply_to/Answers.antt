use Rattle.std.proofs.Common.{arith}
use Rattle.std.proofs.lemmas.Grind.{pieces}
use Rattle.vrp_canonical.proofs.asked.QuestionWorker.reply_to.Goals as goal

pub returns : goal.returns
returns g c = search (pieces, arith) depth 5 fits 300
