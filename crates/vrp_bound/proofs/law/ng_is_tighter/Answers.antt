use Rattle.vrp_bound.proofs.WithoutNgSets.{ng_is_relaxed, ng_is_walk, walk_is_ng}
use Rattle.vrp_bound.proofs.law.ng_is_tighter.Goals as goal

pub returns : goal.returns
returns c = record { walks = ng_is_walk; relaxed = ng_is_relaxed; same = walk_is_ng }
