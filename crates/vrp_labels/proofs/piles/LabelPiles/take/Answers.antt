use Rattle.std.proofs.Common.{[], ap, ◌∙◌}
use Rattle.std.specs.Prelude.{Vec}
use Rattle.std.specs.Global.{Global}
use Rattle.vrp_labels.specs.declared.label.Label.{Label}
use Rattle.vrp_labels.proofs.PileSteps.{changed}
use Rattle.vrp_labels.proofs.piles.LabelPiles.take.Goals as goal

pub returns-clause-left : goal.returns-clause-left
returns-clause-left c = changed c.self.inside.piles.items c.args.self.now c.args.at c.replace.new.dest [] c.self.view_is (ap (λ (v : Vec Label Global). v.items) c.replace.ensures.after ∙ c.new.ensures.items)
