use Rattle.vrp_duals.proofs.FullCounts.{full_route}
use Rattle.vrp_duals.proofs.law.full_memories_count_pairs.Goals as goal

pub returns : goal.returns
returns c = full_route
