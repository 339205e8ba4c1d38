use Rattle.vrp_model.proofs.WithoutCompletion.{none_without_completion}
use Rattle.vrp_model.proofs.law.prefixes_without_completion.Goals as goal

pub returns : goal.returns
returns c = none_without_completion
