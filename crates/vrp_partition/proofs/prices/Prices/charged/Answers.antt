use Rattle.std.proofs.Common.{arith}
use Rattle.std.proofs.lemmas.Grind.{common_steps}
use Rattle.vrp_partition.proofs.prices.Prices.charged.Goals as goal

pub loop-cut-preserved : goal.loop-cut-preserved
loop-cut-preserved c = grind (arith, common_steps)
