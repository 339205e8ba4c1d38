use Rattle.std.proofs.Common.{◌≡◌, ◌≤ℤ◌, ◌+ℤ◌, ◌∙◌, get_or, ap, sym, subst, arith}
use Rattle.std.proofs.lemmas.Bool.{false≢true}
use Rattle.std.proofs.lemmas.Int.{ints}
use Rattle.std.proofs.lemmas.List.{get_or_default}
use Rattle.vrp_duals.specs.Folding.{arc_of}
use Rattle.vrp_labels.specs.Completion.{Meets}
use Rattle.vrp_labels.specs.Label.{IsLabelOf, root_label}
use Rattle.vrp_labels.specs.declared.label.Label.{Label}
use Rattle.vrp_labels.proofs.Meetings.{none_after, none_at_end, none_more}
use Rattle.vrp_labels.proofs.SignedSums.{three_fits, three_is}
use Rattle.vrp_labels.proofs.lookup.meets.Goals as goal

pub overflow_add-cost : goal.overflow_add-cost
overflow_add-cost c =
    let x = c.label-item.result in
    let (is, place) = subst (λ (l : Label). IsLabelOf c.args.graph.now l × (l.at ≡ c.args.place)) (sym c.label-item.is) (c.requires.labels c.loop-label.label-index x c.loop-label-test.true) in
    three_fits c.args.forward.now.cost c.arc.result x.cost (omega (arith, c.requires.small, c.arc.ensures.small, c.arc.ensures.known.capacity, is.small, is.light))

pub joins-requires-clause-cost : goal.joins-requires-clause-cost
joins-requires-clause-cost c =
    let x = c.label-item.result in
    let (is, place) = subst (λ (l : Label). IsLabelOf c.args.graph.now l × (l.at ≡ c.args.place)) (sym c.label-item.is) (c.requires.labels c.loop-label.label-index x c.loop-label-test.true) in
    let arc : c.arc.result ≡ arc_of c.args.graph.now.folded c.args.forward.now.at x.at = c.arc.ensures.value ∙ ap (arc_of c.args.graph.now.folded c.args.forward.now.at) (sym place) in
    let sum = three_is c.args.forward.now.cost c.arc.result x.cost (omega (arith, c.requires.small, c.arc.ensures.small, c.arc.ensures.known.capacity, is.small, is.light)) in
    omega (arith, ints, arc, sum)

pub joins-requires-clause-small : goal.joins-requires-clause-small
joins-requires-clause-small c =
    let x = c.label-item.result in
    let (is, place) = subst (λ (l : Label). IsLabelOf c.args.graph.now l × (l.at ≡ c.args.place)) (sym c.label-item.is) (c.requires.labels c.loop-label.label-index x c.loop-label-test.true) in
    let sum = three_is c.args.forward.now.cost c.arc.result x.cost (omega (arith, c.requires.small, c.arc.ensures.small, c.arc.ensures.known.capacity, is.small, is.light)) in
    omega (arith, ints, sum, c.requires.small, c.arc.ensures.small, c.arc.ensures.known.capacity, is.small, is.light)

pub returns-then-cost-gap-clause-none : goal.returns-then-cost-gap-clause-none
returns-then-cost-gap-clause-none c = λ label has meets.
    let x = c.label-item.result in
    let arc = arc_of c.args.graph.now.folded c.args.forward.now.at c.args.place in
    let (is, place) = subst (λ (l : Label). IsLabelOf c.args.graph.now l × (l.at ≡ c.args.place)) (sym c.label-item.is) (c.requires.labels c.loop-label.label-index x c.loop-label-test.true) in
    let item : x ≡ get_or c.args.pile.now c.loop-label.label-index root_label = c.label-item.is ∙ get_or_default c.args.pile.now c.loop-label.label-index x root_label c.loop-label-test.true in
    let sum = three_is c.args.forward.now.cost c.arc.result x.cost (omega (arith, c.requires.small, c.arc.ensures.small, c.arc.ensures.known.capacity, is.small, is.light)) in
    absurd (none_after c.args.graph.now c.args.gap.now c.args.forward.now c.args.pile.now c.loop-label.label-index c.args.place c.requires.labels c.requires.rising c.loop-label-test.true
    (subst (λ (l : Label). (c.args.forward.now.cost +ℤ arc +ℤ l.cost) ≤ℤ c.args.gap.now → ⊥) item (λ le. grind (ints, arith, c.if-cost-gap.true, le, sum, c.arc.ensures.value))) c.loop-label.invariant label has meets)

pub loop-label-preserved : goal.loop-label-preserved
loop-label-preserved c =
    let x = c.label-item.result in
    let item : x ≡ get_or c.args.pile.now c.loop-label.label-index root_label = c.label-item.is ∙ get_or_default c.args.pile.now c.loop-label.label-index x root_label c.loop-label-test.true in
    none_more c.args.graph.now c.args.gap.now c.args.forward.now c.args.pile.now c.loop-label.label-index c.loop-label.invariant
    (subst (λ (l : Label). Meets c.args.graph.now c.args.gap.now c.args.forward.now l → ⊥) item (λ meets. false≢true (sym c.if-joins.false ∙ c.joins.ensures.1 meets)))

pub returns-clause-none : goal.returns-clause-none
returns-clause-none c = λ label has meets. absurd (none_at_end c.args.graph.now c.args.gap.now c.args.forward.now c.args.pile.now c.loop-label.label-index c.loop-label-test.false c.loop-label.invariant label has meets)

pub returns-then-joins-clause-found : goal.returns-then-joins-clause-found
returns-then-joins-clause-found c = λ yes. (c.label-item.result, (c.loop-label.label-index, c.loop-label-test.true, sym c.label-item.is), c.joins.ensures.0 c.if-joins.true)
