use Rattle.vrp_canonical.proofs.LeafBounds.{both_pools}
use Rattle.vrp_canonical.proofs.leaves.pool_of_leaves.Goals as goal

pub returns-then-branch : goal.returns-then-branch
returns-then-branch c = λ p limit within few many all one other.
    both_pools p limit c.args.least c.args.few.range c.args.many.range c.args.few.pool c.args.many.pool c.add.new.self within all few many c.in_ok-add.ensures.among (c.in_ok-add.ensures.all c.if-branch.true)
