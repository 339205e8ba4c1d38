use Rattle.vrp_duals.proofs.FoldedCosts.{folded_route}
use Rattle.vrp_duals.proofs.law.folding_keeps_costs.Goals as goal

pub returns : goal.returns
returns c = folded_route
