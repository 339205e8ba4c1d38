use Rattle.std.proofs.Common.{take}
use Rattle.vrp_partition.specs.Prices.{AllFit}
use Rattle.vrp_partition.proofs.pool.all_fit.Given as goal

abbrev pub invariant-loop-route : goal.invariant-loop-route
invariant-loop-route l = AllFit l.demands l.capacity (take l.route-index l.pool)
