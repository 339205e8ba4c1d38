use Rattle.vrp_sharing.specs.Caller.{IsCallerOf}
use Rattle.test_solver.proofs.register.register.ask_often.Given as goal

abbrev pub invariant-loop : goal.invariant-loop
invariant-loop g l = IsCallerOf l.register l.caller
