use Rattle.std.proofs.Common.{map}
use Rattle.vrp_canonical.specs.Ordering.{AreMarked, stops_in}
use Rattle.vrp_canonical.proofs.ordered.marked_routes.Given as goal

abbrev pub invariant-loop-at : goal.invariant-loop-at
invariant-loop-at l = AreMarked (map stops_in l.pool) l.routes l.marks l.at l.listed.items
