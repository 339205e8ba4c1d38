use Rattle.std.proofs.Common.{arith, pos, ◌^◌, ◌≡◌, ◌≤ℤ◌, ◌∙◌, ℤ, inl, inr, [], ap, sym, subst, to_z, of_z, w64, rules}
use Rattle.std.proofs.lemmas.Int.{ints}
use Rattle.vrp_duals.specs.Folding.{folded_cost}
use Rattle.vrp_labels.specs.Label.{IsLabelOf, root_label}
use Rattle.vrp_labels.specs.declared.label.Label.{Label}
use Rattle.vrp_labels.specs.Completion.{IsForward, IsLinkCost, CompletionsOf}
use Rattle.vrp_labels.proofs.Joins.{route_above}
use Rattle.vrp_labels.proofs.SignedSums.{least_trans, min_either}
use Rattle.vrp_labels.proofs.completions.Completions.least_route.Goals as goal

pub least-requires : goal.least-requires
least-requires c = subst (λ (s : CompletionsOf). IsLabelOf s.graph c.root.result) c.self.view_is c.root.ensures.label

pub returns-clause-least : goal.returns-clause-least
returns-clause-least c = λ route is.
    let view = ap (λ (s : CompletionsOf). s.gap) c.self.view_is in
    let gap : to_z w64 (of_z w64 c.self.inside.gap) ≡ c.self.inside.gap = search (rules, ints) in
    let one : to_z w64 (of_z w64 c.min.result) ≡ c.min.result = search (rules, ints) in
    let two : to_z w64 (of_z w64 c.min-2.result) ≡ c.min-2.result = search (rules, ints) in
    let low : to_z w64 (of_z w64 c.least.result) ≡ c.least.result = search (rules, ints) in
    elim (route_above c.args.self.now.graph c.args.self.now.gap c.root.result c.least.result route (subst (λ (s : CompletionsOf). IsForward s.graph [] c.root.result) c.self.view_is c.root.ensures.forward) c.least.ensures.bound is) [
      | inl above ↦
          let cost = folded_cost c.args.self.now.graph.folded route in
          subst (λ (z : ℤ). z ≤ℤ cost) (sym two)
          (least_trans c.min-2.result (to_z w64 (of_z w64 c.min.result)) cost c.min-2.ensures.self_bound
          (subst (λ (z : ℤ). z ≤ℤ cost) (sym one)
          (least_trans c.min.result (to_z w64 (of_z w64 c.least.result)) cost c.min.ensures.self_bound
          (subst (λ (z : ℤ). z ≤ℤ cost) (sym low) above))))
      | inr above ↦
          let cost = folded_cost c.args.self.now.graph.folded route in
          subst (λ (z : ℤ). z ≤ℤ cost) (sym two)
          (least_trans c.min-2.result (to_z w64 (of_z w64 c.min.result)) cost c.min-2.ensures.self_bound
          (subst (λ (z : ℤ). z ≤ℤ cost) (sym one)
          (least_trans c.min.result (to_z w64 (of_z w64 c.self.inside.gap)) cost c.min.ensures.other_bound
          (subst (λ (z : ℤ). z ≤ℤ cost) (sym (gap ∙ view)) above))))
    ]

pub returns-clause-attained : goal.returns-clause-attained
returns-clause-attained c =
    let s = c.args.self.now in
    let view = ap (λ (s : CompletionsOf). s.gap) c.self.view_is in
    let gap : to_z w64 (of_z w64 c.self.inside.gap) ≡ c.self.inside.gap = search (rules, ints) in
    let one : to_z w64 (of_z w64 c.min.result) ≡ c.min.result = search (rules, ints) in
    let two : to_z w64 (of_z w64 c.min-2.result) ≡ c.min-2.result = search (rules, ints) in
    let low : to_z w64 (of_z w64 c.least.result) ≡ c.least.result = search (rules, ints) in
    elim (min_either (to_z w64 (of_z w64 c.min.result)) (pos 0)) [
      | inr zero ↦ inl (two ∙ (c.min-2.ensures.value ∙ zero))
      | inl first ↦
          let whole = two ∙ (c.min-2.ensures.value ∙ (first ∙ one)) in
          elim (min_either (to_z w64 (of_z w64 c.least.result)) (to_z w64 (of_z w64 c.self.inside.gap))) [
            | inr other ↦ inr (inl (whole ∙ (c.min.ensures.value ∙ (other ∙ (gap ∙ view)))))
            | inl own ↦
                let is = whole ∙ (c.min.ensures.value ∙ (own ∙ low)) in
                elim c.least.ensures.attained [
                  | inl far ↦ absurd (too_far (to_z w64 (of_z w64 c.min-2.result)) c.min-2.result two c.min-2.ensures.other_bound (is ∙ far))
                  | inr link ↦ inr (inr (subst (λ (z : ℤ). IsLinkCost s root_label z) (sym is)
                      (subst (λ (l : Label). IsLinkCost s l c.least.result) c.root.ensures.value link)))
                ]
          ]
    ]
  where
    too_far : (x y : ℤ) → x ≡ y → y ≤ℤ pos 0 → x ≡ pos (2 ^ 62) → ⊥
    too_far x y e low far = omega (arith, ints)
