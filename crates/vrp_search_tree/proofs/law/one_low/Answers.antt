use Rattle.vrp_search_tree.proofs.OneLow.{one_low}
use Rattle.vrp_search_tree.proofs.law.one_low.Goals as goal

pub returns : goal.returns
returns c = one_low
