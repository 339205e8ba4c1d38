use Rattle.vrp_bound.proofs.FewerCustomers.{fewer_bound_no_lower}
use Rattle.vrp_bound.proofs.law.fewer_customers.Goals as goal

pub returns : goal.returns
returns c = fewer_bound_no_lower
