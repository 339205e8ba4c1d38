use Rattle.vrp_partition.proofs.PoolParts.{branched_choice}
use Rattle.vrp_partition.proofs.law.choices_branch.Goals as goal

pub returns : goal.returns
returns c = branched_choice
