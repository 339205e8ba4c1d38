use Rattle.vrp_bound.proofs.WithoutNgSets.{completion}
use Rattle.vrp_bound.proofs.law.relaxed_completions.Goals as goal

pub returns : goal.returns
returns c = completion
