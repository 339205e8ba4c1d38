use Rattle.std.proofs.Common.{length}
use Rattle.vrp_model.proofs.WordReading.{ReadsRoutes}
use Rattle.vrp_model.proofs.plan.Plan.of_word.Given as goal

abbrev pub invariant-loop-rest : goal.invariant-loop-rest
invariant-loop-rest l = ReadsRoutes l.instance l.word l.plan.routes l.plan.cost l.rest

abbrev pub decreases-loop-rest : goal.decreases-loop-rest
decreases-loop-rest l = length l.rest
