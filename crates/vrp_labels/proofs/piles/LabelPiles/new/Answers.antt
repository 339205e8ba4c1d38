use Rattle.vrp_labels.proofs.PileSteps.{all_empty, empty_vecs, piles_of}
use Rattle.vrp_labels.proofs.piles.LabelPiles.new.Goals as goal

pub returns-clause-none : goal.returns-clause-none
returns-clause-none c = all_empty (piles_of c.loop.piles.items) (empty_vecs c.loop.piles.items c.loop.invariant.none)
