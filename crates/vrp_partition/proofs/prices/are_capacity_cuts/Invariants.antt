use Rattle.std.proofs.Common.{take, All}
use Rattle.vrp_partition.specs.Prices.{IsCapacityCut}
use Rattle.vrp_partition.proofs.prices.are_capacity_cuts.Given as goal

abbrev pub invariant-loop-cut : goal.invariant-loop-cut
invariant-loop-cut l = All (IsCapacityCut l.demands l.capacity l.customers l.least_routes) (take l.cut-index l.cuts)
