use Rattle.std.proofs.Common.{◌≡◌, ◌+◌}
use Rattle.vrp_duals.specs.Folding.{weigh}
use Rattle.vrp_duals.proofs.sums.weighs_at_most.Given as goal

abbrev pub invariant-loop-row : goal.invariant-loop-row
invariant-loop-row l = weigh l.prices l.left + l.fn.limit ≡ weigh l.prices l.fn.rows + l.room

abbrev pub decreases-loop-row : goal.decreases-loop-row
decreases-loop-row l = l.left
