use Rattle.std.proofs.Common.{List, ◌∙◌, ap, subst}
use Rattle.vrp_partition.specs.Branching.{NodeState}
use Rattle.vrp_partition.specs.Outcome.{IsOutcome, IsLeft}
use Rattle.vrp_partition.specs.declared.route.Route.{Route}
use Rattle.vrp_partition.proofs.SearchStates.{left_branches}
use Rattle.vrp_partition.proofs.node.Node.bounded.Goals as goal

pub returns-in_ok-branches-in-Open-clause-end : goal.returns-in_ok-branches-in-Open-clause-end
returns-in_ok-branches-in-Open-clause-end g c =
    let task = c.args.task.now in
    let same = c.as_slice-2.ensures.value ∙ ap (λ (n : NodeState). n.pool) c.self.view_is in
    let left : IsLeft c.args.self.now.pool task.customers task.fleet.trucks task.least_routes task.incumbent c.in-Open.left = subst (IsOutcome c.args.self.now.pool task.customers task.fleet.trucks task.least_routes task.incumbent) c.in-Open.is (subst (λ (pool : List Route). IsOutcome pool task.customers task.fleet.trucks task.least_routes task.incumbent c.in_ok-outcome.outcome) same c.in_ok-outcome.ensures) in
    left_branches c.args.self.now.pool task.customers task.fleet.trucks task.least_routes task.incumbent c.in-Open.left c.in_ok-branches-in-Open.field-0 left c.in_ok-branches-in-Open.ensures.branches
