use Rattle.vrp_bound.specs.Inner.NgCells.{ArePulled}
use Rattle.vrp_bound.proofs.ng_walks.pull.Given as goal

abbrev pub invariant-loop-ng_set : goal.invariant-loop-ng_set
invariant-loop-ng_set l = ArePulled l.weight l.ng_set l.behind l.before l.initial.row l.row
