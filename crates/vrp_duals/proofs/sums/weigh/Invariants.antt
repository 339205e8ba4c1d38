use Rattle.std.proofs.Common.{◌≡◌, ◌+◌}
use Rattle.vrp_duals.specs.Folding.{weigh}
use Rattle.vrp_duals.proofs.sums.weigh.Given as goal

abbrev pub invariant-loop-row : goal.invariant-loop-row
invariant-loop-row l = l.sum + weigh l.prices l.left ≡ weigh l.prices l.fn.rows

abbrev pub decreases-loop-row : goal.decreases-loop-row
decreases-loop-row l = l.left
