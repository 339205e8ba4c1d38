use Rattle.std.proofs.Common.{◌+◌, refl, ap, arith}
use Rattle.vrp_labels.proofs.Graphs.{same_label}
use Rattle.vrp_labels.proofs.SignedSums.{drawn_is, drawn_small}
use Rattle.vrp_labels.proofs.graph.RouteGraph.outline.Goals as goal

pub returns-clause-value : goal.returns-clause-value
returns-clause-value c =
    let label = c.args.label.now in
    same_label _ _ _ _ _ _ _ _ _ _ c.empty.ensures c.empty-2.ensures
    (drawn_is label.cost c.arc.result label.load _ c.arc.ensures.value c.requires.label.small c.arc.ensures.small (omega (arith, c.requires.label.light, c.arc.ensures.known.capacity)))
    (ap (λ n. label.load + n) c.demand.ensures.value)
    refl

pub returns-clause-label : goal.returns-clause-label
returns-clause-label c =
    let label = c.args.label.now in
    record {
      place = c.requires.may.place;
      light = omega (arith, c.demand.ensures.value, c.requires.may.light);
      small = drawn_small label.cost c.arc.result label.load c.demand.result c.requires.label.small c.arc.ensures.small (omega (arith, c.requires.label.light, c.arc.ensures.known.capacity)) (c.demand.ensures.some c.requires.may.some);
    }
