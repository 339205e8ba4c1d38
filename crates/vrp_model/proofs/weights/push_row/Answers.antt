use Rattle.std.proofs.Common.{◌≡◌, ◌+◌, ◌*◌, length, ap, arith}
use Rattle.vrp_model.proofs.Rows.{AreDistances-push}
use Rattle.vrp_model.proofs.weights.push_row.Goals as goal

pub loop-column-preserved : goal.loop-column-preserved
loop-column-preserved c =
    let entries = c.loop-column.entries.items in
    let next : length entries ≡ c.args.row * length c.args.points.now + c.loop-column.column = omega (arith, ap length c.deref.ensures.value) in
    record {
      next = omega arith;
      capacity = omega arith;
      so_far =
          rw c.push_reserved.ensures.items
          (AreDistances-push c.args.metric c.args.points.now entries c.args.row c.loop-column.column c.next_weight-weight.result next c.loop-column-test.true c.next_weight-weight.ensures.distance c.next_weight-weight.ensures.small c.loop-column.invariant.so_far);
    }
