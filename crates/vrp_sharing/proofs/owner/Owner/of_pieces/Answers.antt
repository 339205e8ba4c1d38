use Rattle.std.proofs.Common.{ap}
use Rattle.vrp_sharing.specs.declared.draws.Draws.{Draws}
use Rattle.vrp_sharing.proofs.PileSteps.{puts}
use Rattle.vrp_sharing.proofs.owner.Owner.of_pieces.Goals as goal

pub push_as-requires-clause-pushes : goal.push_as-requires-clause-pushes
push_as-requires-clause-pushes c = puts _ _ _ (ap (λ (v : Draws). v.parts) c.loop-piece.invariant.known)
