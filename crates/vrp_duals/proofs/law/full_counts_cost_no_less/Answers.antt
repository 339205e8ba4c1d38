use Rattle.vrp_duals.proofs.PricedPlans.{no_less_in_full}
use Rattle.vrp_duals.proofs.law.full_counts_cost_no_less.Goals as goal

pub returns : goal.returns
returns c = no_less_in_full
