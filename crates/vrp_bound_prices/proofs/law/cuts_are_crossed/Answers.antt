use Rattle.vrp_bound_prices.proofs.Crossed.{crossed_by_trucks}
use Rattle.vrp_bound_prices.proofs.law.cuts_are_crossed.Goals as goal

pub returns : goal.returns
returns c = crossed_by_trucks
