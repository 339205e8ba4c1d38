use Rattle.std.proofs.Common.{◌≡◌, ◌+◌, ◌*◌, length, vec_len}
use Rattle.std.specs.Vec.{vec_capacity}
use Rattle.vrp_model.specs.Inner.Rows.{AreDistances}
use Rattle.vrp_model.proofs.weights.push_row.Given as goal

abbrev pub invariant-loop-column : goal.invariant-loop-column
invariant-loop-column l = record {
  next : vec_len l.entries ≡ l.row * length l.points + l.column;
  capacity : vec_capacity l.entries ≡ vec_capacity l.initial.entries;
  so_far : AreDistances l.metric l.points l.entries.items;
}
