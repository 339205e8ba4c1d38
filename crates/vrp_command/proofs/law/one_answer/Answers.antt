use Rattle.vrp_command.proofs.OneReport.{requests_agree}
use Rattle.vrp_command.proofs.law.one_answer.Goals as goal

pub returns : goal.returns
returns c = requests_agree c.one_meaning.ensures.problem c.one_canonical.ensures
