use Rattle.std.proofs.Common.{◌≡◌, ◌+◌}
use Rattle.vrp_partition.specs.Prices.{load_of}
use Rattle.vrp_partition.proofs.prices.demand_of.Given as goal

abbrev pub invariant-loop-customer : goal.invariant-loop-customer
invariant-loop-customer l = l.total + load_of l.demands l.left ≡ load_of l.demands l.fn.set

abbrev pub decreases-loop-customer : goal.decreases-loop-customer
decreases-loop-customer l = l.left
