use Rattle.vrp_bound_prices.proofs.PricedWords.{cost_with_prices}
use Rattle.vrp_bound_prices.proofs.law.costs_with_prices.Goals as goal

pub returns : goal.returns
returns c = cost_with_prices
