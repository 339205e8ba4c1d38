use Rattle.std.proofs.Common.{arith}
use Rattle.vrp_canonical.proofs.LeafBounds.{kept_choices}
use Rattle.vrp_canonical.proofs.leaves.routes_kept.Goals as goal

pub returns : goal.returns
returns c = λ customers trucks fewest limit within.
    kept_choices c.args.routes.now c.args.marks.now c.loop-at.kept.items customers trucks fewest limit within (λ i lt. c.loop-at.invariant i (omega (arith, lt, c.loop-at-test.false)))
