use Rattle.std.proofs.Common.{refl, arith}
use Rattle.vrp_labels.proofs.Graphs.{same_label}
use Rattle.vrp_labels.proofs.SignedSums.{reversed_is, reversed_small}
use Rattle.vrp_labels.proofs.graph.RouteGraph.as_forward.Goals as goal

pub returns-clause-value : goal.returns-clause-value
returns-clause-value c =
    same_label _ _ _ _ _ _ _ _ _ _ refl refl
    (reversed_is c.args.label.now.cost c.arc-first.result c.arc-last.result _ _
    (omega (arith, c.arc-first.ensures.small, c.arc-last.ensures.small, c.arc-last.ensures.known.capacity, c.requires.small, c.requires.light)) c.arc-first.ensures.value c.arc-last.ensures.value)
    refl refl

pub returns-clause-small : goal.returns-clause-small
returns-clause-small c = reversed_small c.args.label.now.cost c.arc-first.result c.arc-last.result c.args.label.now.load c.requires.small (omega (arith, c.requires.light, c.arc-last.ensures.known.capacity)) c.arc-first.ensures.small c.arc-last.ensures.small
