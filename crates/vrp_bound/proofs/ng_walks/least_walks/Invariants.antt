use Rattle.std.proofs.Common.{◌≡◌, ℕ, ◌<◌, ◌≤◌, ◌/◌, ◌%◌, length, slice_index}
use Rattle.std.specs.Vec.{vec_capacity}
use Rattle.vrp_model.specs.Problem.{place_count}
use Rattle.vrp_bound.specs.Inner.CompletionCells.{IsLeastCell, mark}
use Rattle.vrp_bound.specs.Inner.CompletionCells.{HasWalk}
use Rattle.vrp_model.specs.Near.{near_in}
use Rattle.vrp_bound.specs.Inner.Scaled.{scaled}
use Rattle.vrp_bound.proofs.ng_walks.least_walks.Given as goal

abbrev pub invariant-loop-place : goal.invariant-loop-place
invariant-loop-place l = record {
  len : length l.walks.items ≡ l.place;
  capacity : l.count ≤ vec_capacity l.walks;
  each : (k : ℕ) → k < length l.walks.items → IsLeastCell (HasWalk (scaled l.scope.units) (near_in l.scope.ng_sets.now) l.scope.units.customers.now (k % place_count (scaled l.scope.units)) (k / place_count (scaled l.scope.units))) (slice_index l.walks.items k);
  within : (k : ℕ) → slice_index l.walks.items k ≤ mark;
}
