use Rattle.vrp_solver.proofs.columns.chosen_again.Goals as goal

pub returns-clause-canonical : goal.returns-clause-canonical
returns-clause-canonical g c = c.with_bound.ensures.canonical c.args.shared.now.problem c.in_ok-outcome.ensures.canonical

pub returns-clause-better : goal.returns-clause-better
returns-clause-better g c = c.with_bound.ensures.better c.args.shared.now.problem c.in_ok-outcome.ensures.better
