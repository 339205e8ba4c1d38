use Rattle.vrp_bound_prices.proofs.BoundByRelaxation.{tours_below}
use Rattle.vrp_bound_prices.proofs.law.tours_bound.Goals as goal

pub returns : goal.returns
returns c = tours_below
