use Rattle.vrp_routes.specs.Merge.{AreMerged}
use Rattle.vrp_routes.proofs.merge.merged_between.Given as goal

-- the labels of the parts before this one are merged
abbrev pub invariant-loop-index : goal.invariant-loop-index
invariant-loop-index g l = AreMerged l.parts l.index l.from l.to l.labels.items
