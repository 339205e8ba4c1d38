use Rattle.vrp_text.proofs.OneProblem.{MeansProblem-one}
use Rattle.vrp_text.proofs.OneRefusal.{MeansRefusal-one, not_both}
use Rattle.vrp_text.proofs.law.one_meaning.Goals as goal

pub returns-clause-problem : goal.returns-clause-problem
returns-clause-problem c = MeansProblem-one c.one_distance.ensures

pub returns-clause-refusal : goal.returns-clause-refusal
returns-clause-refusal c = MeansRefusal-one

pub returns-clause-either : goal.returns-clause-either
returns-clause-either c = not_both
