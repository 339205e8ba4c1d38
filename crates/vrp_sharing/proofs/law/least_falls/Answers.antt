use Rattle.vrp_sharing.proofs.LeastCosts.{falls}
use Rattle.vrp_sharing.proofs.law.least_falls.Goals as goal

pub returns : goal.returns
returns c = falls
