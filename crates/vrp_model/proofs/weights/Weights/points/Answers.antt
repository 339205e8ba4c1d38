use Rattle.std.proofs.Common.{◌≡◌, ◌*◌, length, refl, arith}
use Rattle.vrp_model.proofs.Rows.{HasDistances-from_rows}
use Rattle.vrp_model.proofs.weights.Weights.points.Goals as goal

pub returns : goal.returns
returns c =
    let rows : c.loop-row.row ≡ length c.args.points.now = omega arith in
    let square : length c.loop-row.entries.items ≡ length c.args.points.now * length c.args.points.now = omega (arith, rw rows at c.loop-row.invariant.next) in
    HasDistances-from_rows c.args.metric c.args.points.now _ c.loop-row.entries.items refl square c.loop-row.invariant.so_far
