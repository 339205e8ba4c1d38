use Rattle.vrp_bound.proofs.CapacityBelow.{none_adds_less}
use Rattle.vrp_bound.proofs.law.capacity_bounds.Goals as goal

pub returns : goal.returns
returns c = none_adds_less
