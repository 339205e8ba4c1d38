use Rattle.vrp_bound.proofs.NgCompletions.{ng_completion}
use Rattle.vrp_bound.proofs.law.ng_completions.Goals as goal

pub returns : goal.returns
returns c = ng_completion
