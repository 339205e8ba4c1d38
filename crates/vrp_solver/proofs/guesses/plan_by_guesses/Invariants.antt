use Rattle.vrp_model.specs.Cheapest.{NoneCheaper}
use Rattle.vrp_solver.proofs.guesses.plan_by_guesses.Given as goal

abbrev pub invariant-loop : goal.invariant-loop
invariant-loop g l = NoneCheaper l.fn.shared.problem l.bound
