use Rattle.vrp_labels.proofs.Reversed.{law_alive, law_cheap, law_cost}
use Rattle.vrp_labels.proofs.law.cheap_routes_reverse.Goals as goal

pub returns-clause-cost : goal.returns-clause-cost
returns-clause-cost c = law_cost

pub returns-clause-alive : goal.returns-clause-alive
returns-clause-alive c = law_alive

pub returns-clause-cheap : goal.returns-clause-cheap
returns-clause-cheap c = law_cheap
