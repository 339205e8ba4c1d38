use Rattle.std.proofs.Common.{◌≡◌, ◌⊎◌, ◌^◌, pos, ◌≤ℤ◌, ◌∙◌, inl, inr, ℤ, List, ap, sym, subst, arith, to_z, of_z, w64, rules}
use Rattle.std.proofs.lemmas.Bool.{cases_lt, false≢true}
use Rattle.std.proofs.lemmas.Int.{ints}
use Rattle.vrp_duals.specs.Folding.{arc_of}
use Rattle.vrp_labels.specs.Graph.{Follows}
use Rattle.vrp_labels.specs.Label.{IsLabelOf, pile_at}
use Rattle.vrp_labels.proofs.completions.Completions.least.Goals.{then-follows-2, else-follows-2}
use Rattle.vrp_labels.proofs.SignedSums.{least_trans}
use Rattle.std.specs.List.{All}
use Rattle.vrp_labels.specs.Completion.{IsJoinCost, IsLeastJoin, IsLinkCost, AreCompletions, CompletionsOf}
use Rattle.vrp_labels.specs.declared.label.Label.{Label}
use Rattle.vrp_labels.proofs.ClosingSteps.{in_kept}
use Rattle.vrp_labels.proofs.Joins.{least_kept, least_of_all}
use Rattle.vrp_labels.proofs.completions.Completions.least.Goals as goal

pub least_in_bands-best-requires-clause-labels : goal.least_in_bands-best-requires-clause-labels
least_in_bands-best-requires-clause-labels c =
    let g = c.self.inside.graph.now in
    let place = c.loop-place.place in
    subst (λ (p : List Label). All (λ label. IsLabelOf g label × (label.at ≡ place)) p) (sym c.get.ensures) (in_kept g place c.self.inside.kept c.self.invariant.completions.are_kept)

pub returns-clause-bound : goal.returns-clause-bound
returns-clause-bound c =
    let s = c.args.self.now in
    let is : AreCompletions s = subst AreCompletions c.self.view_is c.self.invariant.completions in
    let all = ap (λ (s : CompletionsOf). s.graph.folded.places) c.self.view_is in
    least_of_all s.graph s.gap s.kept c.args.forward.now (to_z w64 c.loop-place.best-bits) is.closed c.loop-place.invariant.none
    (λ at some lt. c.loop-place.invariant.each at some (omega (arith, lt, all, c.loop-place-test.false, c.places-place-end.ensures.value)))

pub loop-place-preserved : goal.loop-place-preserved
loop-place-preserved c =
    let s = c.args.self.now in
    let forward = c.args.forward.now in
    let best = to_z w64 c.loop-place.best-bits in
    let next = to_z w64 c.if-follows-2.best-bits in
    let inv = c.loop-place.invariant in
    elim c.if-follows-2.branch [
      | then-follows-2 w ↦
          let same : to_z w64 (of_z w64 w.least_in_bands-best.result) ≡ w.least_in_bands-best.result = search (rules, ints) in
          let below : next ≤ℤ best = grind (arith, ints, same, w.best-is, w.least_in_bands-best.ensures.below) in
          let here : IsLeastJoin s.graph forward (pile_at s.kept c.loop-place.place) w.least_in_bands-best.result =
          subst (λ (s : CompletionsOf). IsLeastJoin s.graph forward (pile_at s.kept c.loop-place.place) w.least_in_bands-best.result) c.self.view_is
          (subst (λ (p : List Label). IsLeastJoin c.self.inside.graph.now forward p w.least_in_bands-best.result) w.get.ensures w.least_in_bands-best.ensures.least) in
          let follows_here = c.follows-in-loop-place.ensures.0 w.if-follows-2.true in
          record {
            attained = elim w.least_in_bands-best.ensures.attained [
              | inl kept ↦ subst (λ (z : ℤ). (z ≡ pos (2 ^ 62)) ⊎ IsLinkCost s forward z) (sym (w.best-is ∙ (same ∙ kept))) inv.attained
              | inr found ↦ inr (inr (
                c.loop-place.place,
                subst (λ (s : CompletionsOf). Follows s.graph forward.at c.loop-place.place) c.self.view_is follows_here,
                subst (λ (z : ℤ). IsJoinCost s.graph forward (pile_at s.kept c.loop-place.place) z) (sym (w.best-is ∙ same))
                    (subst (λ (s : CompletionsOf). IsJoinCost s.graph forward (pile_at s.kept c.loop-place.place) w.least_in_bands-best.result) c.self.view_is
                    (subst (λ (p : List Label). IsJoinCost c.self.inside.graph.now forward p w.least_in_bands-best.result) w.get.ensures found)),
              ))
            ];
            none = λ follows. least_trans next best (arc_of s.graph.folded forward.at 0) below (inv.none follows);
            each = λ at some lt follows. elim (cases_lt at c.loop-place.place) [
              | inl before ↦ least_kept s.graph forward (pile_at s.kept at) best next below (inv.each at some before follows)
              | inr last ↦ subst (λ n. IsLeastJoin s.graph forward (pile_at s.kept n) next) (let same : c.loop-place.place ≡ at = omega (arith, lt, last) in same)
                  (subst (IsLeastJoin s.graph forward (pile_at s.kept c.loop-place.place)) (sym (w.best-is ∙ same)) here)
            ];
          }
      | else-follows-2 w ↦ record {
        attained = subst (λ (z : ℤ). (z ≡ pos (2 ^ 62)) ⊎ IsLinkCost s forward z) (sym w.best-is) inv.attained;
        none = λ follows. subst (λ (z : ℤ). z ≤ℤ arc_of s.graph.folded forward.at 0) (sym w.best-is) (inv.none follows);
        each = λ at some lt follows. elim (cases_lt at c.loop-place.place) [
          | inl before ↦ subst (IsLeastJoin s.graph forward (pile_at s.kept at)) (sym w.best-is) (inv.each at some before follows)
          | inr last ↦
              let same : at ≡ c.loop-place.place = omega (arith, lt, last) in
              absurd (false≢true (sym w.if-follows-2.false ∙ c.follows-in-loop-place.ensures.1 (subst (λ (s : CompletionsOf). Follows s.graph forward.at c.loop-place.place) (sym c.self.view_is) (subst (Follows s.graph forward.at) same follows))))
        ];
      }
    ]
