use Rattle.vrp_model.proofs.Trees.{tree_at_least, tree_at_most}
use Rattle.vrp_model.proofs.law.tree_sizes.Goals as goal

pub returns : goal.returns
returns c = λ p prefix size n tree. (tree_at_most p prefix size n tree, tree_at_least p prefix size n tree)
