use Rattle.vrp_solver.proofs.columns.plan_from.Goals as goal

pub returns-clause-canonical : goal.returns-clause-canonical
returns-clause-canonical g c = c.with_plan.ensures.canonical c.args.shared.now.problem c.in_ok-outcome.ensures.canonical

pub returns-clause-bound : goal.returns-clause-bound
returns-clause-bound g c = c.with_plan.ensures.bound c.args.shared.now.problem c.in_ok-outcome.ensures.bound
