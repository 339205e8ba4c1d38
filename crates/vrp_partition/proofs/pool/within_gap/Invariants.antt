use Rattle.std.proofs.Common.{◌≡◌, take, filter}
use Rattle.vrp_partition.specs.Prices.{is_within_gap}
use Rattle.vrp_partition.specs.declared.prices.TheConstants.{SCALE}
use Rattle.vrp_partition.proofs.pool.within_gap.Given as goal

abbrev pub invariant-loop-index : goal.invariant-loop-index
invariant-loop-index l = l.kept.items ≡ filter (is_within_gap l.prices SCALE l.gap) (take l.index l.pool)
