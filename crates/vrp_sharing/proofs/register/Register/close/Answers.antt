use Rattle.std.proofs.Common.{arith}
use Rattle.std.proofs.lemmas.Grind.{common_steps}
use Rattle.std.proofs.lemmas.Int.{ints}
use Rattle.vrp_sharing.proofs.register.Register.close.Goals as goal

pub close-requires-clause-all : goal.close-requires-clause-all
close-requires-clause-all g c = grind (ints, arith, common_steps)

pub returns-clause-history : goal.returns-clause-history
returns-clause-history g c = grind (ints, arith, common_steps)
