use Rattle.vrp_duals.proofs.NeededRows.{obeyed}
use Rattle.vrp_duals.proofs.law.needed_rows_are_obeyed.Goals as goal

pub returns : goal.returns
returns c = obeyed
