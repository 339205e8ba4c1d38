use Rattle.std.proofs.Common.{◌≡◌, ◌<◌, ℕ, get_or, length, map}
use Rattle.vrp_partition.specs.Narrowing.{route_at}
use Rattle.vrp_partition.proofs.narrowing.all_routes.Given as goal

-- the routes so far are there
abbrev pub invariant-loop-place : goal.invariant-loop-place
invariant-loop-place l = record {
  long : length l.places.items ≡ l.place;
  each : (at : ℕ) → at < length l.places.items → get_or l.places.items at 0 ≡ at;
  are : l.routes.items ≡ map (route_at l.pool) l.places.items;
}
