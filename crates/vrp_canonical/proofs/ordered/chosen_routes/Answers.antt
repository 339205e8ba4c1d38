use Rattle.std.proofs.Common.{arith}
use Rattle.std.proofs.lemmas.Grind.{common_steps}
use Rattle.std.proofs.lemmas.Int.{ints}
use Rattle.vrp_canonical.proofs.ordered.chosen_routes.Goals as goal

pub loop-at-preserved : goal.loop-at-preserved
loop-at-preserved c = grind (ints, arith, common_steps)

pub returns : goal.returns
returns c = grind (ints, arith, common_steps)
