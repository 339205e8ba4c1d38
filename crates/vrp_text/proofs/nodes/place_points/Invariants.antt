use Rattle.std.proofs.Common.{pos}
use Rattle.std.specs.List.{All}
use Rattle.vrp_model.specs.Grid.{IsCoordinate}
use Rattle.vrp_text.specs.Complete.{row_nodes, row_points}
use Rattle.vrp_text.specs.Inner.PlacedRows.{ArePlaced}
use Rattle.vrp_text.proofs.nodes.place_points.Given as goal

abbrev pub invariant-loop-row : goal.invariant-loop-row
invariant-loop-row l =
    ArePlaced (pos 0, pos 0) l.nodes (row_nodes 3 l.nodes l.numbers) (row_points l.nodes l.numbers) l.row l.given l.points
    × All (λ point. IsCoordinate point.0 × IsCoordinate point.1) l.points
