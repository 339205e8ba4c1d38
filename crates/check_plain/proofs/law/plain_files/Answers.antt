use Rattle.check_plain.proofs.PlainLaw.{plain_means}
use Rattle.check_plain.proofs.law.plain_files.Goals as goal

pub returns : goal.returns
returns c = plain_means
