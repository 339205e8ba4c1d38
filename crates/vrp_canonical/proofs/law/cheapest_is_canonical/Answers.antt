use Rattle.vrp_canonical.proofs.Answered.{cheapest_canonical}
use Rattle.vrp_canonical.proofs.law.cheapest_is_canonical.Goals as goal

pub returns : goal.returns
returns c = cheapest_canonical
