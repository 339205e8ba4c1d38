use Rattle.std.proofs.Common.{◌≡◌, ◌+◌, ◌^◌, ◌∙◌, refl, ap, arith, bit_and}
use Rattle.std.specs.Int.RustNames.{bit_or}
use Rattle.vrp_duals.specs.Folding.{FoldedOf, due_at, rows_at}
use Rattle.vrp_labels.proofs.Graphs.{same_label}
use Rattle.vrp_labels.proofs.SignedSums.{grown_is, grown_small}
use Rattle.vrp_labels.proofs.graph.RouteGraph.extended.Goals as goal

pub returns-clause-value : goal.returns-clause-value
returns-clause-value c =
    let g = c.args.self.now in
    let label = c.args.label.now in
    let j = c.args.customer in
    let due : c.due_at-due.result ≡ due_at g.folded j label.rows = c.due_at-due.ensures.value ∙ ap (λ (f : FoldedOf). due_at f j label.rows) c.folded_duals.ensures in
    same_label _ _ _ _ _ _ _ _ _ _
    (c.with.ensures ∙ ap (λ n. bit_or n (2 ^ j)) (c.intersection.ensures ∙ ap (bit_and label.visited) c.near.ensures))
    (c.rows_at.ensures ∙ ap (λ (f : FoldedOf). rows_at f j label.rows) c.folded_duals-2.ensures)
    (grown_is label.cost c.arc-arc.result c.due_at-due.result label.load _ _ c.arc-arc.ensures.value due c.requires.label.small c.arc-arc.ensures.small c.due_at-due.ensures.small (omega (arith, c.requires.label.light, c.arc-arc.ensures.known.capacity)))
    (ap (λ n. label.load + n) c.demand.ensures.value)
    refl

pub returns-clause-label : goal.returns-clause-label
returns-clause-label c =
    let label = c.args.label.now in
    record {
      place = c.requires.may.place;
      light = omega (arith, c.demand.ensures.value, c.requires.may.light);
      small = grown_small label.cost c.arc-arc.result c.due_at-due.result label.load c.demand.result c.requires.label.small c.arc-arc.ensures.small c.due_at-due.ensures.small (omega (arith, c.requires.label.light, c.arc-arc.ensures.known.capacity)) (c.demand.ensures.some c.requires.may.some);
    }
