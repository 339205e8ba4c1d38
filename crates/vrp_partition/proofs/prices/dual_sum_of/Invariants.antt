use Rattle.std.proofs.Common.{◌≡◌, ◌+ℤ◌}
use Rattle.vrp_partition.specs.Prices.{dual_sum}
use Rattle.vrp_partition.proofs.prices.dual_sum_of.Given as goal

abbrev pub invariant-loop-customer : goal.invariant-loop-customer
invariant-loop-customer l = l.total +ℤ dual_sum l.prices l.left ≡ dual_sum l.prices l.fn.set

abbrev pub decreases-loop-customer : goal.decreases-loop-customer
decreases-loop-customer l = l.left
