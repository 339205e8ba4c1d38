use Rattle.std.proofs.Common.{◌≡◌, ◌⊎◌, inl, inr, ◌≤ℤ◌, ◌+ℤ◌, ◌∙◌, ℤ, get_or, to_z, of_z, w64, rules, ap, sym, subst, arith}
use Rattle.std.proofs.lemmas.Int.{ints}
use Rattle.std.proofs.lemmas.List.{get_or_default}
use Rattle.vrp_duals.specs.Folding.{arc_of}
use Rattle.vrp_labels.specs.Completion.{CanJoin, IsJoinCost, join_cost}
use Rattle.vrp_labels.specs.Label.{IsLabelOf, root_label}
use Rattle.vrp_labels.specs.declared.label.Label.{Label}
use Rattle.vrp_labels.proofs.Joins.{least_at_end, least_more, least_so_far}
use Rattle.vrp_labels.proofs.SignedSums.{sum_fits, sum_is}
use Rattle.vrp_labels.proofs.lookup.least_join.Goals as goal

pub overflow_add-cost : goal.overflow_add-cost
overflow_add-cost c =
    let x = c.label-item.result in
    let (is, place) = subst (λ (l : Label). IsLabelOf c.args.graph.now l × (l.at ≡ c.args.place)) (sym c.label-item.is) (c.requires.labels c.loop-label.label-index x c.loop-label-test.true) in
    sum_fits c.arc-arc.result x.cost (omega (arith, c.arc-arc.ensures.small, c.arc-arc.ensures.known.capacity, is.small, is.light))

pub lesser_join-best-requires-clause-label : goal.lesser_join-best-requires-clause-label
lesser_join-best-requires-clause-label c =
    (subst (λ (l : Label). IsLabelOf c.args.graph.now l × (l.at ≡ c.args.place)) (sym c.label-item.is) (c.requires.labels c.loop-label.label-index c.label-item.result c.loop-label-test.true)).0

pub lesser_join-best-requires-clause-cost : goal.lesser_join-best-requires-clause-cost
lesser_join-best-requires-clause-cost c =
    let x = c.label-item.result in
    let (is, place) = subst (λ (l : Label). IsLabelOf c.args.graph.now l × (l.at ≡ c.args.place)) (sym c.label-item.is) (c.requires.labels c.loop-label.label-index x c.loop-label-test.true) in
    let arc : c.arc-arc.result ≡ arc_of c.args.graph.now.folded c.args.forward.now.at x.at = c.arc-arc.ensures.value ∙ ap (arc_of c.args.graph.now.folded c.args.forward.now.at) (sym place) in
    sum_is c.arc-arc.result x.cost (omega (arith, c.arc-arc.ensures.small, c.arc-arc.ensures.known.capacity, is.small, is.light)) ∙ ap (λ (z : ℤ). z +ℤ x.cost) arc

pub lesser_join-best-requires-clause-small : goal.lesser_join-best-requires-clause-small
lesser_join-best-requires-clause-small c =
    let x = c.label-item.result in
    let (is, place) = subst (λ (l : Label). IsLabelOf c.args.graph.now l × (l.at ≡ c.args.place)) (sym c.label-item.is) (c.requires.labels c.loop-label.label-index x c.loop-label-test.true) in
    let sum = sum_is c.arc-arc.result x.cost (omega (arith, c.arc-arc.ensures.small, c.arc-arc.ensures.known.capacity, is.small, is.light)) in
    omega (arith, ints, sum, c.arc-arc.ensures.small, c.arc-arc.ensures.known.capacity, is.small, is.light)

pub returns-then-cost-best-clause-least : goal.returns-then-cost-best-clause-least
returns-then-cost-best-clause-least c =
    let x = c.label-item.result in
    let best = to_z w64 c.loop-label.best-bits in
    let arc = arc_of c.args.graph.now.folded c.args.forward.now.at c.args.place in
    let (is, place) = subst (λ (l : Label). IsLabelOf c.args.graph.now l × (l.at ≡ c.args.place)) (sym c.label-item.is) (c.requires.labels c.loop-label.label-index x c.loop-label-test.true) in
    let item : x ≡ get_or c.args.pile.now c.loop-label.label-index root_label = c.label-item.is ∙ get_or_default c.args.pile.now c.loop-label.label-index x root_label c.loop-label-test.true in
    let sum = sum_is c.arc-arc.result x.cost (omega (arith, c.arc-arc.ensures.small, c.arc-arc.ensures.known.capacity, is.small, is.light)) in
    least_so_far c.args.graph.now c.args.forward.now c.args.pile.now c.loop-label.label-index c.args.place best c.requires.labels c.requires.rising c.loop-label-test.true
    (subst (λ (l : Label). best ≤ℤ (arc +ℤ l.cost)) item (grind (ints, arith, c.if-cost-best.true, sum, c.arc-arc.ensures.value)))
    c.loop-label.invariant.least

pub loop-label-preserved : goal.loop-label-preserved
loop-label-preserved c =
    let g = c.args.graph.now in
    let forward = c.args.forward.now in
    let x = c.label-item.result in
    let next = to_z w64 (of_z w64 c.lesser_join-best.result) in
    let item : x ≡ get_or c.args.pile.now c.loop-label.label-index root_label = c.label-item.is ∙ get_or_default c.args.pile.now c.loop-label.label-index x root_label c.loop-label-test.true in
    let same : to_z w64 (of_z w64 c.lesser_join-best.result) ≡ c.lesser_join-best.result = search (rules, ints) in
    record {
      attained = elim c.lesser_join-best.ensures.attained [
        | inl kept ↦ subst (λ (z : ℤ). (z ≡ to_z w64 (of_z w64 c.args.known)) ⊎ IsJoinCost g forward c.args.pile.now z) (sym (same ∙ kept)) c.loop-label.invariant.attained
        | inr (can, is) ↦ inr (x, (c.loop-label.label-index, c.loop-label-test.true, sym c.label-item.is), can, same ∙ is)
      ];
      below = omega (arith, ints, same, c.lesser_join-best.ensures.below, c.loop-label.invariant.below);
      least = least_more g forward c.args.pile.now c.loop-label.label-index (to_z w64 c.loop-label.best-bits) next
          (omega (arith, ints, same, c.lesser_join-best.ensures.below))
          (subst (λ (l : Label). CanJoin g forward l → next ≤ℤ join_cost g forward l) item (λ fits. subst (λ (z : ℤ). z ≤ℤ join_cost g forward x) (sym same) (c.lesser_join-best.ensures.least fits)))
          c.loop-label.invariant.least;
    }

pub returns-clause-least : goal.returns-clause-least
returns-clause-least c = least_at_end c.args.graph.now c.args.forward.now c.args.pile.now c.loop-label.label-index (to_z w64 c.loop-label.best-bits) c.loop-label-test.false c.loop-label.invariant.least
