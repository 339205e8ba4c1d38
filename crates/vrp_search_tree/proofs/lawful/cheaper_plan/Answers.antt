use Rattle.std.proofs.Common.{rules}
use Rattle.vrp_search_tree.proofs.lawful.cheaper_plan.Goals as goal

pub returns-in-Some-clause-no_costlier : goal.returns-in-Some-clause-no_costlier
returns-in-Some-clause-no_costlier c = search rules
