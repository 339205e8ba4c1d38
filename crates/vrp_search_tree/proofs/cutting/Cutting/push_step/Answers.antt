use Rattle.std.proofs.Common.{arith}
use Rattle.std.proofs.lemmas.Grind.{common_steps}
use Rattle.std.proofs.lemmas.Int.{ints}
use Rattle.vrp_search_tree.proofs.cutting.Cutting.push_step.Goals as goal

pub returns-then-branch : goal.returns-then-branch
returns-then-branch c = grind (ints, arith, common_steps)

pub returns : goal.returns
returns c = grind (ints, arith, common_steps)
