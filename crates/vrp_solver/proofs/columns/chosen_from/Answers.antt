use Rattle.std.proofs.Common.{subst}
use Rattle.vrp_answer.specs.Outcomes.{Search}
use Rattle.vrp_model.specs.Cheapest.{NoneCheaper}
use Rattle.vrp_solver.proofs.columns.chosen_from.Goals as goal

pub returns-in-Some-clause-canonical : goal.returns-in-Some-clause-canonical
returns-in-Some-clause-canonical g c = c.with_bound.ensures.canonical c.args.shared.now.problem c.in_ok-outcome.ensures.canonical

pub returns-in-Some-clause-better : goal.returns-in-Some-clause-better
returns-in-Some-clause-better g c = c.with_bound.ensures.better c.args.shared.now.problem c.in_ok-outcome.ensures.better

pub returns-in-Some-clause-bound : goal.returns-in-Some-clause-bound
returns-in-Some-clause-bound g c =
    let bound : NoneCheaper c.args.shared.now.problem c.bound_on_all-bound.result = subst (λ (s : Search). NoneCheaper s.problem c.bound_on_all-bound.result) c.shared.view_is c.bound_on_all-bound.ensures in
    c.with_bound.ensures.bound c.args.shared.now.problem c.in_ok-outcome.ensures.bound bound
