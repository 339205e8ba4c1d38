use Rattle.vrp_labels.proofs.PileSteps.{grown}
use Rattle.vrp_labels.proofs.piles.LabelPiles.push.Goals as goal

pub returns : goal.returns
returns c = grown c.self.inside.piles.items c.args.self.now c.args.at c.index_mut.result.now c.push.new.self c.args.label c.self.view_is c.requires c.index_mut.ensures.value c.in_ok-push.ensures.items
