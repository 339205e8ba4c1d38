use Rattle.vrp_canonical.proofs.LeafBounds.{AreKept}
use Rattle.vrp_canonical.proofs.leaves.routes_kept.Given as goal

abbrev pub invariant-loop-at : goal.invariant-loop-at
invariant-loop-at l = AreKept l.routes l.marks l.at l.kept.items
