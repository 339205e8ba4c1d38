use Rattle.std.proofs.Common.{◌∙◌, subst}
use Rattle.vrp_routes.specs.Range.{HaveAll}
use Rattle.vrp_routes.specs.declared.plan_range.PlanRange.{PlanRange}
use Rattle.vrp_column_generation.proofs.leaves.generate_leaves.Goals as goal

pub returns-clause-pools : goal.returns-clause-pools
returns-clause-pools g c =
    let root = c.args.root.arcs in
    let leaves = c.split-leaves.result in
    let all = subst (λ (range : PlanRange). HaveAll range leaves.few leaves.many) (c.range.ensures ∙ c.requires.all) c.split-leaves.ensures.all in
    c.pools_of_both-pools.ensures root.problem root.range.limit c.in_ok-few.ensures.pool c.in_ok-many.ensures.pool all
