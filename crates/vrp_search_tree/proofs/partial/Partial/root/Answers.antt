use Rattle.std.proofs.Common.{arith}
use Rattle.std.proofs.lemmas.Grind.{common_steps}
use Rattle.std.proofs.lemmas.Int.{ints}
use Rattle.vrp_search_tree.proofs.partial.Partial.root.Goals as goal

pub invariant_of-result : goal.invariant_of-result
invariant_of-result c = grind (ints, arith, common_steps)
