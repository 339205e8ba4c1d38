use Rattle.vrp_labels.specs.OnwardBound.{IsBoundTableTo}
use Rattle.vrp_labels.proofs.onward.OnwardBound.new.Given as goal

abbrev pub invariant-loop-k : goal.invariant-loop-k
invariant-loop-k l = IsBoundTableTo l.graph l.table.items l.k
