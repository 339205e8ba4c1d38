use Rattle.std.proofs.Common.{◌≡◌, map, take}
use Rattle.vrp_canonical.specs.Ordering.{chosen_of}
use Rattle.vrp_canonical.proofs.ordered.chosen_routes.Given as goal

abbrev pub invariant-loop-at : goal.invariant-loop-at
invariant-loop-at l = l.routes.items ≡ map chosen_of (take l.at l.pool)
