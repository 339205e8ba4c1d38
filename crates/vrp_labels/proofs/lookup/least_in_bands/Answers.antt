use Rattle.std.proofs.Common.{◌≡◌, ◌⊎◌, ◌-◌, ◌+ℤ◌, ◌≤ℤ◌, ◌∙◌, ℤ, inl, inr, List, get_or, refl, sym, subst, arith, rules, to_z, of_z, w64}
use Rattle.std.specs.List.{All, slice_range}
use Rattle.std.proofs.lemmas.Int.{ints}
use Rattle.vrp_duals.specs.Folding.{arc_of}
use Rattle.vrp_labels.specs.Bands.{IsBand, no_band}
use Rattle.vrp_labels.specs.Completion.{IsJoinCost, IsLeastJoin}
use Rattle.vrp_labels.specs.Label.{IsLabelOf}
use Rattle.vrp_labels.specs.Sorting.{IsRising}
use Rattle.vrp_labels.specs.declared.label.Label.{Label}
use Rattle.vrp_labels.proofs.BandLookUp.{join_of_part, least_above, least_below, least_cheaper, least_of_bands}
use Rattle.vrp_labels.proofs.SignedSums.{least_trans, sum_is}
use Rattle.vrp_labels.proofs.Slices.{all_part}
use Rattle.vrp_labels.proofs.lookup.least_in_bands.Goals as goal

pub loop-k-init : goal.loop-k-init
loop-k-init c =
    let same : to_z w64 (of_z w64 c.args.known) ≡ c.args.known = search (rules, ints) in
    record {
      attained = inl refl;
      below = itself (to_z w64 (of_z w64 c.args.known));
      least = least_above c.args.graph.now c.args.forward.now c.args.pile.now c.args.shift c.top_band-top.result (to_z w64 (of_z w64 c.args.known)) c.top_band-top.ensures.value;
    }
  where
    itself : (c : ℤ) → c ≤ℤ c
    itself c = omega (arith, ints)

pub returns-then-arc-bands-clause-least : goal.returns-then-arc-bands-clause-least
returns-then-arc-bands-clause-least c =
    let g = c.args.graph.now in
    let pile = c.args.pile.now in
    let b = c.top_band-top.result - c.loop-k.k in
    let band = get_or c.args.bands.now b no_band in
    let best = to_z w64 c.loop-k.best-bits in
    let arc = arc_of g.folded c.args.forward.now.at c.args.place in
    let is : IsBand c.args.shift b pile band = c.requires.bands.each b (omega (arith, c.top_band-top.ensures.small)) in
    let sum = sum_is c.arc-arc.result band.least (omega (arith, c.arc-arc.ensures.small, is.small)) in
    let dear : best ≤ℤ (arc +ℤ band.least) = grind (ints, arith, c.if-arc-bands.true, sum, c.arc-arc.ensures.value) in
    least_cheaper g c.args.forward.now pile c.args.place c.args.shift c.top_band-top.result c.loop-k.k band best c.requires.labels (omega (arith, c.loop-k-test.true)) is c.loop-k.invariant.least dear

pub returns-then-arc-bands-clause-attained : goal.returns-then-arc-bands-clause-attained
returns-then-arc-bands-clause-attained c =
    let same : to_z w64 (of_z w64 c.args.known) ≡ c.args.known = search (rules, ints) in
    subst (λ (z : ℤ). (to_z w64 c.loop-k.best-bits ≡ z) ⊎ IsJoinCost c.args.graph.now c.args.forward.now c.args.pile.now (to_z w64 c.loop-k.best-bits)) same c.loop-k.invariant.attained

pub returns-clause-attained : goal.returns-clause-attained
returns-clause-attained c =
    let same : to_z w64 (of_z w64 c.args.known) ≡ c.args.known = search (rules, ints) in
    subst (λ (z : ℤ). (to_z w64 c.loop-k.best-bits ≡ z) ⊎ IsJoinCost c.args.graph.now c.args.forward.now c.args.pile.now (to_z w64 c.loop-k.best-bits)) same c.loop-k.invariant.attained

pub returns-clause-least : goal.returns-clause-least
returns-clause-least c = least_of_bands c.args.graph.now c.args.forward.now c.args.pile.now c.args.shift c.top_band-top.result c.loop-k.k (to_z w64 c.loop-k.best-bits) (omega (arith, c.loop-k-test.false)) c.loop-k.invariant.least

pub least_join-best-requires-clause-labels : goal.least_join-best-requires-clause-labels
least_join-best-requires-clause-labels c =
    let P = λ (label : Label). IsLabelOf c.args.graph.now label × (label.at ≡ c.args.place) in
    let band = get_or c.args.bands.now (c.top_band-top.result - c.loop-k.k) no_band in
    subst (λ (p : List Label). All P p) (sym c.band_labels-labels.ensures) (all_part P c.args.pile.now band.from band.to c.requires.labels)

pub least_join-best-requires-clause-rising : goal.least_join-best-requires-clause-rising
least_join-best-requires-clause-rising c =
    let b = c.top_band-top.result - c.loop-k.k in
    let is : IsBand c.args.shift b c.args.pile.now (get_or c.args.bands.now b no_band) = c.requires.bands.each b (omega (arith, c.top_band-top.ensures.small)) in
    subst IsRising (sym c.band_labels-labels.ensures) is.rising

pub loop-k-preserved : goal.loop-k-preserved
loop-k-preserved c =
    let g = c.args.graph.now in
    let forward = c.args.forward.now in
    let pile = c.args.pile.now in
    let b = c.top_band-top.result - c.loop-k.k in
    let band = get_or c.args.bands.now b no_band in
    let known = to_z w64 (of_z w64 c.args.known) in
    let best = to_z w64 c.loop-k.best-bits in
    let next = to_z w64 (of_z w64 c.least_join-best.result) in
    let is : IsBand c.args.shift b pile band = c.requires.bands.each b (omega (arith, c.top_band-top.ensures.small)) in
    let same : next ≡ c.least_join-best.result = search (rules, ints) in
    let low : next ≤ℤ best = subst (λ (z : ℤ). z ≤ℤ best) (sym same) c.least_join-best.ensures.below in
    record {
      attained = elim c.least_join-best.ensures.attained [
        | inl kept ↦ subst (λ (z : ℤ). (z ≡ known) ⊎ IsJoinCost g forward pile z) (sym (same ∙ kept)) c.loop-k.invariant.attained
        | inr found ↦ inr (subst (λ (z : ℤ). IsJoinCost g forward pile z) (sym same)
            (join_of_part g forward pile band.from band.to c.least_join-best.result is.order is.within (subst (λ (p : List Label). IsJoinCost g forward p c.least_join-best.result) c.band_labels-labels.ensures found)))
      ];
      below = least_trans next best known low c.loop-k.invariant.below;
      least = least_below g forward pile c.args.shift c.top_band-top.result c.loop-k.k band best next (omega (arith, c.loop-k-test.true)) is c.loop-k.invariant.least low
          (subst (IsLeastJoin g forward (slice_range pile band.from band.to)) (sym same) (subst (λ (p : List Label). IsLeastJoin g forward p c.least_join-best.result) c.band_labels-labels.ensures c.least_join-best.ensures.least));
    }
