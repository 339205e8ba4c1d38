use Rattle.vrp_model.proofs.Trees.{tree_of_children}
use Rattle.vrp_model.proofs.law.trees_of_children.Goals as goal

pub returns : goal.returns
returns c = tree_of_children
