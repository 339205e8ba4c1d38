use Rattle.vrp_canonical.proofs.Begun.{least_first}
use Rattle.vrp_canonical.proofs.law.least_is_canonical.Goals as goal

pub returns : goal.returns
returns c = least_first
