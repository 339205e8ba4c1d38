use Rattle.vrp_partition.proofs.PoolParts.{kept_choice}
use Rattle.vrp_partition.proofs.law.costly_routes_left_out.Goals as goal

pub returns : goal.returns
returns c = kept_choice
