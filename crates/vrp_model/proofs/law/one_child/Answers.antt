use Rattle.vrp_model.proofs.PrefixesBefore.{one_child_behind}
use Rattle.vrp_model.proofs.law.one_child.Goals as goal

pub returns : goal.returns
returns c = one_child_behind
