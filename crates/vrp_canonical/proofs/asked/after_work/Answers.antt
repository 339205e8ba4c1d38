use Rattle.std.proofs.Common.{arith}
use Rattle.std.proofs.lemmas.Grind.{common_steps}
use Rattle.std.proofs.lemmas.Int.{ints}
use Rattle.vrp_canonical.proofs.asked.after_work.Goals as goal

pub returns : goal.returns
returns g c = grind (ints, arith, common_steps)
