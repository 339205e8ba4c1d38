use Rattle.vrp_bound.proofs.CapacityBelow.{left_carry}
use Rattle.vrp_bound.proofs.law.trucks_left_carry.Goals as goal

pub returns : goal.returns
returns c = left_carry
