use Rattle.std.proofs.Common.{◌≡◌, ◌*◌, length, vec_len}
use Rattle.std.specs.Vec.{vec_capacity}
use Rattle.vrp_model.specs.Inner.Rows.{AreDistances}
use Rattle.vrp_model.proofs.weights.Weights.points.Given as goal

abbrev pub invariant-loop-row : goal.invariant-loop-row
invariant-loop-row l = record {
  next : vec_len l.entries ≡ l.row * length l.points;
  capacity : vec_capacity l.entries ≡ length l.points * length l.points;
  so_far : AreDistances l.metric l.points l.entries.items;
}
