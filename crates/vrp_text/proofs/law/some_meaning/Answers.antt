use Rattle.vrp_text.proofs.SomeMeaning.{some_meaning}
use Rattle.vrp_text.proofs.law.some_meaning.Goals as goal

pub returns : goal.returns
returns c = some_meaning
