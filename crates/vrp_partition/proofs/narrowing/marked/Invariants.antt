use Rattle.std.proofs.Common.{◌≡◌, ◌<◌, ℕ, get_or, length, map, true, false}
use Rattle.std.specs.List.{Contains}
use Rattle.vrp_partition.specs.Narrowing.{route_at}
use Rattle.vrp_partition.proofs.narrowing.marked.Given as goal

-- the marked places so far are kept
abbrev pub invariant-loop-at : goal.invariant-loop-at
invariant-loop-at l = record {
  inside : (i : ℕ) → i < length l.kept.items → get_or l.kept.items i 0 < length l.pool;
  are : l.routes.items ≡ map (route_at l.pool) l.kept.items;
  all : (i : ℕ) → i < l.at → get_or l.marks i false ≡ true → Contains l.kept.items (get_or l.places i 0);
}
