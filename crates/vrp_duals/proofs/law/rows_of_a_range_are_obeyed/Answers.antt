use Rattle.vrp_duals.proofs.NeededRows.{obeyed_for}
use Rattle.vrp_duals.proofs.law.rows_of_a_range_are_obeyed.Goals as goal

pub returns : goal.returns
returns c = obeyed_for
