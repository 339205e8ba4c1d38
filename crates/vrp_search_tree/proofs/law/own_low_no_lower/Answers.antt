use Rattle.vrp_search_tree.proofs.OwnLows.{own_low_no_lower}
use Rattle.vrp_search_tree.proofs.law.own_low_no_lower.Goals as goal

pub returns : goal.returns
returns c = own_low_no_lower c.fewer_customers.ensures
