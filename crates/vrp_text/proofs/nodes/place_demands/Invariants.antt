use Rattle.vrp_text.specs.Complete.{row_nodes, row_demands}
use Rattle.vrp_text.specs.Inner.PlacedRows.{ArePlaced}
use Rattle.vrp_text.proofs.nodes.place_demands.Given as goal

abbrev pub invariant-loop-row : goal.invariant-loop-row
invariant-loop-row l = ArePlaced 0 l.nodes (row_nodes 2 l.nodes l.numbers) (row_demands l.nodes l.numbers) l.row l.given l.demands
