use Rattle.std.proofs.Common.{◌<◌, ◌^◌, ◌-◌, length}
use Rattle.vrp_routes.specs.Merge.{AreMerged}
use Rattle.vrp_routes.proofs.merge.all_merged.Given as goal

-- the labels of the parents before this one are merged
abbrev pub invariant-loop-from : goal.invariant-loop-from
invariant-loop-from g l = record {
  small : l.from < 2 ^ 33;
  merged : AreMerged l.parts (length l.parts) 0 l.from l.merged.items;
}

abbrev pub decreases-loop-from : goal.decreases-loop-from
decreases-loop-from g l = l.parents - l.from
