use Rattle.std.proofs.Common.{◌≡◌, length}
use Rattle.vrp_priced_routes.proofs.near_sets.nearest_sets.Given as goal

abbrev pub invariant-loop-place : goal.invariant-loop-place
invariant-loop-place l = length l.sets.items ≡ l.place
