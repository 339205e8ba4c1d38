use Rattle.std.proofs.Common.{rules}
use Rattle.vrp_model.proofs.instance.Instance.capacity.Goals as goal

pub returns-clause-value : goal.returns-clause-value
returns-clause-value c = search rules
