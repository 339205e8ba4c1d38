use Rattle.std.proofs.Common.{◌≡◌, List, arith, inl, of_z, rules, sym, subst, to_z, w64}
use Rattle.std.specs.List.{All}
use Rattle.std.proofs.lemmas.Int.{ints}
use Rattle.vrp_labels.specs.Completion.{CompletionsOf, Links}
use Rattle.vrp_labels.specs.Label.{IsLabelOf}
use Rattle.vrp_labels.specs.declared.label.Label.{Label}
use Rattle.vrp_labels.proofs.ClosingSteps.{in_kept}
use Rattle.vrp_labels.proofs.SignedSums.{sum_is}
use Rattle.vrp_labels.proofs.completions.Completions.links.Goals as goal

pub meets_in_bands-requires-clause-labels : goal.meets_in_bands-requires-clause-labels
meets_in_bands-requires-clause-labels c =
    let g = c.self.inside.graph.now in
    let place = c.args.place in
    subst (λ (p : List Label). All (λ label. IsLabelOf g label × (label.at ≡ place)) p) (sym c.get.ensures) (in_kept g place c.self.inside.kept c.self.invariant.completions.are_kept)

pub returns-then-place-eq0-clause-found : goal.returns-then-place-eq0-clause-found
returns-then-place-eq0-clause-found c = λ yes.
    let gap : to_z w64 (of_z w64 c.self.inside.gap) ≡ c.self.inside.gap = search (rules, ints) in
    let sum = sum_is c.args.forward.now.cost c.arc.result (omega (arith, c.requires.small, c.arc.ensures.small)) in
    subst (λ (s : CompletionsOf). Links s c.args.forward.now c.args.place) c.self.view_is
    (c.follows.ensures.0 c.if-not-follows.false, inl (c.if-place-eq0.true, grind (ints, arith, yes, sum, gap, c.arc.ensures.value)))
