use Rattle.std.proofs.Common.{◌<◌, ◌≤◌, ℕ, length}
use Rattle.std.specs.Int.{bit_at}
use Rattle.vrp_canonical.specs.Passing.{IsInside, route_in}
use Rattle.vrp_canonical.proofs.run.run_from.Given as goal

abbrev pub invariant-loop-end : goal.invariant-loop-end
invariant-loop-end l = record {
  some : 0 < l.common;
  unserved : (i : ℕ) → bit_at l.common i ≤ bit_at l.unserved i;
  have : (k : ℕ) → l.index ≤ k → k < l.end → k < length l.pool → IsInside l.pool l.unserved k → (i : ℕ) → bit_at l.common i ≤ bit_at (route_in l.pool k).set i;
}
