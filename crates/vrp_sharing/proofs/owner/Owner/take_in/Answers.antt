use Rattle.std.proofs.Common.{◌≡◌, arith}
use Rattle.crossbeam_deque.specs.Handles.{view}
use Rattle.vrp_sharing.proofs.PileSteps.{merges}
use Rattle.vrp_sharing.proofs.owner.Owner.take_in.Goals as goal

pub absorb-requires-clause-rule : goal.absorb-requires-clause-rule
absorb-requires-clause-rule c = merges _ _ _ _ c.self.invariant.1 (let one : (view c.thief.inside.pass).parts ≡ 1 = c.thief.invariant.2 in omega (arith, one))
