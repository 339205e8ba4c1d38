use Rattle.vrp_sharing.proofs.LeastCosts.{least_of_all, least_stands}
use Rattle.vrp_sharing.proofs.law.least_is_least.Goals as goal

pub returns-clause-one : goal.returns-clause-one
returns-clause-one c = least_stands

pub returns-clause-none_less : goal.returns-clause-none_less
returns-clause-none_less c = least_of_all
