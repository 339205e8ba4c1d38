use Rattle.vrp_column_generation.specs.Progress.{AreFor}
use Rattle.vrp_column_generation.proofs.rounds.run_rounds.Given as goal

abbrev pub invariant-loop : goal.invariant-loop
invariant-loop g l = AreFor l.fn.progress.arcs.problem l.fn.progress.arcs.range l.progress.arcs
