use Rattle.std.proofs.Common.{map}
use Rattle.vrp_canonical.specs.Ordering.{AreMarked, route_of, stops_of}
use Rattle.vrp_canonical.proofs.ordered.kept_routes.Given as goal

abbrev pub invariant-loop-at : goal.invariant-loop-at
invariant-loop-at l = AreMarked (map stops_of l.ordered) (map route_of l.ordered) l.marks l.at l.kept.items
