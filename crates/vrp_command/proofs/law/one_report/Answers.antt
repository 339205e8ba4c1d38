use Rattle.vrp_command.proofs.OneReport.{reports_agree}
use Rattle.vrp_command.proofs.law.one_report.Goals as goal

pub returns : goal.returns
returns c = reports_agree c.one_meaning.ensures.problem c.one_canonical.ensures
