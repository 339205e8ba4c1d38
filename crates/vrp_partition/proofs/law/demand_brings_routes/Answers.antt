use Rattle.vrp_partition.proofs.NeededVisits.{needed_visits}
use Rattle.vrp_partition.proofs.law.demand_brings_routes.Goals as goal

pub returns : goal.returns
returns c = needed_visits
