use Rattle.std.proofs.Common.{rules}
use Rattle.vrp_partition.proofs.pool.together.Goals as goal

pub returns : goal.returns
returns c = search rules
