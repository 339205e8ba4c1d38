use Rattle.std.proofs.Common.{arith}
use Rattle.std.proofs.lemmas.Grind.{common_steps}
use Rattle.std.proofs.lemmas.Int.{ints}
use Rattle.vrp_partition.proofs.priced.marks_by_prices.Goals as goal

pub returns-in_default : goal.returns-in_default
returns-in_default g c = grind (ints, arith, common_steps)
