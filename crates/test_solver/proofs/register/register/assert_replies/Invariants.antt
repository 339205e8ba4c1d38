use Rattle.vrp_sharing.specs.Caller.{IsCallerOf}
use Rattle.test_solver.proofs.register.register.assert_replies.Given as goal

abbrev pub invariant-loop-plan : goal.invariant-loop-plan
invariant-loop-plan g l = IsCallerOf l.fn.register l.caller
