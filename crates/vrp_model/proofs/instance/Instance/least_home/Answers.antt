use Rattle.std.proofs.Common.{arith}
use Rattle.std.proofs.lemmas.Grind.{common_steps}
use Rattle.std.proofs.lemmas.Int.{ints}
use Rattle.vrp_model.proofs.instance.Instance.least_home.Goals as goal

pub returns-clause-least : goal.returns-clause-least
returns-clause-least c = grind (ints, arith, common_steps)

pub returns-clause-small : goal.returns-clause-small
returns-clause-small c = grind (ints, arith, common_steps)
