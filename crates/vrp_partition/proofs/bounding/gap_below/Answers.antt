use Rattle.std.proofs.Common.{arith}
use Rattle.std.proofs.lemmas.Grind.{common_steps}
use Rattle.vrp_partition.proofs.bounding.gap_below.Goals as goal

pub returns-then-gap-lt0-clause-none : goal.returns-then-gap-lt0-clause-none
returns-then-gap-lt0-clause-none c = grind (arith, common_steps)

pub returns-else-gap-lt0-clause-value : goal.returns-else-gap-lt0-clause-value
returns-else-gap-lt0-clause-value c = grind (arith, common_steps)
