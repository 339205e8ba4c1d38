use Rattle.vrp_model.proofs.PrefixesBefore.{longer_tree}
use Rattle.vrp_model.proofs.law.longer_trees.Goals as goal

pub returns : goal.returns
returns c = longer_tree
