use Rattle.vrp_column_generation.proofs.Passes.{still_for}
use Rattle.vrp_column_generation.proofs.rounds.run_rounds.Goals as goal

pub loop-preserved : goal.loop-preserved
loop-preserved g c = still_for c.args.progress.arcs.problem c.args.progress.arcs.range c.loop.progress.arcs c.in_ok-after.after.progress.arcs c.loop.invariant c.in_ok-after.ensures.arcs
