use Rattle.vrp_labels.proofs.OnwardTable.{StepTo}
use Rattle.vrp_labels.proofs.onward.bound_entry.Given as goal

abbrev pub invariant-loop-i : goal.invariant-loop-i
invariant-loop-i l = StepTo l.graph l.table l.j l.room l.i l.best
