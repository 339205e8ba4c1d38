use Rattle.std.proofs.Common.{rules}
use Rattle.crossbeam_deque.specs.Handles.{worker_view}
use Rattle.vrp_sharing.proofs.PileSteps.{drawn_or_not, finds, takes}
use Rattle.vrp_sharing.proofs.owner.Owner.take.Goals as goal

pub pop_as-requires-clause-fifo : goal.pop_as-requires-clause-fifo
pop_as-requires-clause-fifo c = λ _. takes _ _ c.self.invariant.1

pub pop_as-requires-clause-empty : goal.pop_as-requires-clause-empty
pop_as-requires-clause-empty c = finds _ _

pub returns-clause-drawn : goal.returns-clause-drawn
returns-clause-drawn c = search (rules, drawn_or_not _ _ (worker_view c.self.inside.deque) _ _ _ _ c.self.view_is c.pop_as.ensures.same.0.0 c.pop_as.ensures.rule)
