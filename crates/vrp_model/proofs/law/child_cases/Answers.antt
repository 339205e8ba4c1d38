use Rattle.vrp_model.proofs.ChildCases.{cases_of_child}
use Rattle.vrp_model.proofs.law.child_cases.Goals as goal

pub returns : goal.returns
returns c = cases_of_child
