use Rattle.std.proofs.Common.{arith}
use Rattle.std.proofs.lemmas.Grind.{common_steps}
use Rattle.std.proofs.lemmas.Int.{ints}
use Rattle.vrp_sharing.proofs.register.merged.Goals as goal

pub loop-caller-init : goal.loop-caller-init
loop-caller-init g c = grind (ints, arith, common_steps)

pub loop-caller-preserved : goal.loop-caller-preserved
loop-caller-preserved g c = grind (ints, arith, common_steps)
