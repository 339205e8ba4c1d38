use Rattle.vrp_bound_prices.proofs.PricesRelax.{symmetric_alike}
use Rattle.vrp_bound_prices.proofs.law.same_symmetry.Goals as goal

pub returns : goal.returns
returns c = symmetric_alike
