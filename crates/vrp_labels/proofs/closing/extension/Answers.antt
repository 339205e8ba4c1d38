use Rattle.std.proofs.Common.{subst}
use Rattle.vrp_labels.specs.Label.{IsBeyondGap}
use Rattle.vrp_labels.specs.declared.label.Label.{Label}
use Rattle.vrp_labels.proofs.ClosingSteps.{beyond_by_outline}
use Rattle.vrp_labels.proofs.closing.extension.Goals as goal

pub returns-then-is_beyond_gap-clause-beyond : goal.returns-then-is_beyond_gap-clause-beyond
returns-then-is_beyond_gap-clause-beyond c =
    let g = c.args.graph.now in
    beyond_by_outline g c.args.onward.now.gap c.args.label.now c.args.customer
    (subst (λ (l : Label). IsBeyondGap g c.args.onward.now.gap l) c.outline.ensures.value (c.is_beyond_gap.ensures c.if-is_beyond_gap.true))
