use Rattle.std.proofs.Common.{arith}
use Rattle.std.proofs.lemmas.Grind.{common_steps}
use Rattle.std.proofs.lemmas.Int.{ints}
use Rattle.vrp_answer.proofs.gatherer.Gatherer.add.Goals as goal

pub returns-then-added : goal.returns-then-added
returns-then-added c = grind (ints, arith, common_steps)
