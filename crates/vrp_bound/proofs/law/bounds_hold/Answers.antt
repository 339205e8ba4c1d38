use Rattle.vrp_bound.proofs.BothBounds.{none_below}
use Rattle.vrp_bound.proofs.law.bounds_hold.Goals as goal

pub returns : goal.returns
returns c = none_below
