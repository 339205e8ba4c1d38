use Rattle.std.proofs.Common.{subst}
use Rattle.vrp_canonical.specs.Ending.{IfBound}
use Rattle.vrp_model.specs.Cheapest.{NoneCheaper}
use Rattle.vrp_solver.proofs.Solvings.{higher_bound}
use Rattle.vrp_solver.proofs.guesses.plan_by_guesses.Goals as goal

pub loop-init : goal.loop-init
loop-init g c = c.requires.bound

pub returns-then-lower_bound-limit-clause-bound : goal.returns-then-lower_bound-limit-clause-bound
returns-then-lower_bound-limit-clause-bound g c =
    let p = c.args.shared.now.problem in
    higher_bound p c.loop.bound c.in-Unfinished.lower_bound c.max-bound.result c.loop.invariant (subst (IfBound (NoneCheaper p)) c.in-Unfinished.is c.in_ok-plan.ensures.bound) c.max-bound.ensures

pub loop-preserved : goal.loop-preserved
loop-preserved g c =
    let p = c.args.shared.now.problem in
    higher_bound p c.loop.bound c.in-Unfinished.lower_bound c.max-bound.result c.loop.invariant (subst (IfBound (NoneCheaper p)) c.in-Unfinished.is c.in_ok-plan.ensures.bound) c.max-bound.ensures

pub returns-clause-bound : goal.returns-clause-bound
returns-clause-bound g c = c.loop.invariant
