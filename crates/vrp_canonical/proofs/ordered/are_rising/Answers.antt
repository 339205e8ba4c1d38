use Rattle.std.proofs.Common.{arith}
use Rattle.vrp_canonical.proofs.Rising.{all_earlier}
use Rattle.vrp_canonical.proofs.ordered.are_rising.Goals as goal

pub returns : goal.returns
returns c = λ yes. all_earlier c.args.listed.now (λ k d e below. c.loop-index.invariant k d e (omega (arith, below, c.loop-index-test.false)))
