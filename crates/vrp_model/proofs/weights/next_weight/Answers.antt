use Rattle.std.proofs.Common.{◌≡◌, length, arith}
use Rattle.vrp_model.proofs.Distances.{IsDistance-self}
use Rattle.vrp_model.proofs.Rows.{place_before, IsDistanceAt-read, IsDistanceAt-turned}
use Rattle.vrp_model.proofs.weights.next_weight.Goals as goal

pub returns-then-column-row-clause-distance : goal.returns-then-column-row-clause-distance
returns-then-column-row-clause-distance c =
    let below = place_before c.args.column c.args.row (length c.args.points.now) c.if-column-row.true c.requires.row_within in
    IsDistanceAt-turned c.args.metric c.args.points.now c.args.column c.args.row _
    (c.requires.so_far.each c.args.column c.args.row c.requires.row_within (omega arith))

pub returns-else-column-row-2-clause-distance : goal.returns-else-column-row-2-clause-distance
returns-else-column-row-2-clause-distance c =
    IsDistanceAt-read c.args.metric c.args.points.now c.args.row c.args.column _ _ _ c.distance.ensures.distance

pub returns-then-column-row-2-clause-distance : goal.returns-then-column-row-2-clause-distance
returns-then-column-row-2-clause-distance c = λ from to a b.
    let same : from ≡ to = cc in
    rw (← same) (IsDistance-self c.args.metric from)
