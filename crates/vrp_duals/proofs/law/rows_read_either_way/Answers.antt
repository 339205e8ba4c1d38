use Rattle.vrp_duals.proofs.FoldedRows.{turned_row}
use Rattle.vrp_duals.proofs.law.rows_read_either_way.Goals as goal

pub returns : goal.returns
returns c = turned_row
