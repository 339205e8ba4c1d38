use Rattle.vrp_bound_prices.proofs.PricesRelax.{priced_relaxation}
use Rattle.vrp_bound_prices.proofs.law.prices_relax.Goals as goal

pub returns : goal.returns
returns c = priced_relaxation
