use Rattle.std.proofs.Common.{rules}
use Rattle.vrp_model.proofs.instance.Instance.trucks.Goals as goal

pub returns-clause-value : goal.returns-clause-value
returns-clause-value c = search rules

pub returns-clause-problem : goal.returns-clause-problem
returns-clause-problem c = search rules
