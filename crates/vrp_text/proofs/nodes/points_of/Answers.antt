use Rattle.std.proofs.Common.{◌≡◌, length, drop, rules}
use Rattle.std.proofs.Math.Seq.{take-append_seam}
use Rattle.vrp_text.proofs.nodes.points_of.Goals as goal

pub returns-clause-small : goal.returns-clause-small
returns-clause-small c =
    let placed = c.place_points.new.points in
    let count : length placed ≡ c.in_ok-points.points.len = search rules in
    rw (← count, take-append_seam placed (drop (length placed) c.in_ok-points.points.items)) c.in_ok-place_points.ensures.small
