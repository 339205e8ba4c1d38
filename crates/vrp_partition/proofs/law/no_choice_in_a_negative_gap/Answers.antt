use Rattle.vrp_partition.proofs.PoolParts.{none_in_gap}
use Rattle.vrp_partition.proofs.law.no_choice_in_a_negative_gap.Goals as goal

pub returns : goal.returns
returns c = none_in_gap
