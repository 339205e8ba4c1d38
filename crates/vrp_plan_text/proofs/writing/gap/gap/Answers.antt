use Rattle.std.proofs.Common.{arith}
use Rattle.std.proofs.lemmas.Grind.{common_steps}
use Rattle.std.proofs.lemmas.Int.{ints}
use Rattle.vrp_plan_text.proofs.writing.gap.gap.Goals as goal

pub returns : goal.returns
returns c = grind (ints, arith, common_steps)
