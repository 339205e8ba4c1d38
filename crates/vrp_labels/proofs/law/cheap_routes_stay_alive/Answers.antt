use Rattle.vrp_labels.proofs.CheapPlans.{stays_alive}
use Rattle.vrp_labels.proofs.law.cheap_routes_stay_alive.Goals as goal

pub returns : goal.returns
returns c = stays_alive
