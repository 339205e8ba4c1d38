use Rattle.std.proofs.Common.{rules}
use Rattle.vrp_partition.proofs.node.Node.branches.Goals as goal

pub returns-clause-branches : goal.returns-clause-branches
returns-clause-branches c = search rules
