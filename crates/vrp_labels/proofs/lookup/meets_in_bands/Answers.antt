use Rattle.std.proofs.Common.{◌≡◌, ◌-◌, ◌∙◌, List, get_or, sym, subst, arith}
use Rattle.std.specs.List.{All, Contains}
use Rattle.std.proofs.lemmas.Bool.{false≢true}
use Rattle.std.proofs.lemmas.Int.{ints}
use Rattle.vrp_labels.specs.Bands.{IsBand, no_band}
use Rattle.vrp_labels.specs.Label.{IsLabelOf}
use Rattle.vrp_labels.specs.Sorting.{IsRising}
use Rattle.vrp_labels.specs.declared.label.Label.{Label}
use Rattle.vrp_labels.proofs.BandLookUp.{none_above, none_at_all, none_below, none_cheaper, of_part}
use Rattle.vrp_labels.proofs.SignedSums.{three_is}
use Rattle.vrp_labels.proofs.Slices.{all_part}
use Rattle.vrp_labels.proofs.lookup.meets_in_bands.Goals as goal

pub loop-k-init : goal.loop-k-init
loop-k-init c = none_above c.args.graph.now c.args.gap.now c.args.forward.now c.args.pile.now c.args.shift c.top_band-top.result c.top_band-top.ensures.value

pub returns-clause-none : goal.returns-clause-none
returns-clause-none c = λ label has meets.
    absurd (none_at_all c.args.graph.now c.args.gap.now c.args.forward.now c.args.pile.now c.args.shift c.top_band-top.result c.loop-k.k (omega (arith, c.loop-k-test.false)) c.loop-k.invariant label has meets)

pub returns-then-base-bands-clause-none : goal.returns-then-base-bands-clause-none
returns-then-base-bands-clause-none c = λ label has meets.
    let g = c.args.graph.now in
    let pile = c.args.pile.now in
    let b = c.top_band-top.result - c.loop-k.k in
    let band = get_or c.args.bands.now b no_band in
    let is : IsBand c.args.shift b pile band = c.requires.bands.each b (omega (arith, c.top_band-top.ensures.small)) in
    let sum = three_is c.args.forward.now.cost c.arc.result band.least (omega (arith, c.requires.small, c.arc.ensures.small, is.small)) in
    absurd (none_cheaper g c.args.gap.now c.args.forward.now pile c.args.place c.args.shift c.top_band-top.result c.loop-k.k band c.requires.labels (omega (arith, c.loop-k-test.true)) is c.loop-k.invariant
    (λ le. grind (ints, arith, c.if-base-bands.true, le, sum, c.arc.ensures.value)) label has meets)

pub meets-requires-clause-labels : goal.meets-requires-clause-labels
meets-requires-clause-labels c =
    let P = λ (label : Label). IsLabelOf c.args.graph.now label × (label.at ≡ c.args.place) in
    let band = get_or c.args.bands.now (c.top_band-top.result - c.loop-k.k) no_band in
    subst (λ (p : List Label). All P p) (sym c.band_labels.ensures) (all_part P c.args.pile.now band.from band.to c.requires.labels)

pub meets-requires-clause-rising : goal.meets-requires-clause-rising
meets-requires-clause-rising c =
    let b = c.top_band-top.result - c.loop-k.k in
    let is : IsBand c.args.shift b c.args.pile.now (get_or c.args.bands.now b no_band) = c.requires.bands.each b (omega (arith, c.top_band-top.ensures.small)) in
    subst IsRising (sym c.band_labels.ensures) is.rising

pub returns-then-meets-clause-found : goal.returns-then-meets-clause-found
returns-then-meets-clause-found c = λ yes.
    let b = c.top_band-top.result - c.loop-k.k in
    let band = get_or c.args.bands.now b no_band in
    let is : IsBand c.args.shift b c.args.pile.now band = c.requires.bands.each b (omega (arith, c.top_band-top.ensures.small)) in
    let (label, has, meets) = c.meets.ensures.found c.if-meets.true in
    (label, of_part c.args.pile.now band.from band.to label is.order is.within (subst (λ (p : List Label). Contains p label) c.band_labels.ensures has), meets)

pub loop-k-preserved : goal.loop-k-preserved
loop-k-preserved c =
    let b = c.top_band-top.result - c.loop-k.k in
    let band = get_or c.args.bands.now b no_band in
    let is : IsBand c.args.shift b c.args.pile.now band = c.requires.bands.each b (omega (arith, c.top_band-top.ensures.small)) in
    none_below c.args.graph.now c.args.gap.now c.args.forward.now c.args.pile.now c.args.shift c.top_band-top.result c.loop-k.k band (omega (arith, c.loop-k-test.true)) is c.loop-k.invariant
    (λ label has meets. false≢true (sym c.if-meets.false ∙ c.meets.ensures.none label (subst (λ (p : List Label). Contains p label) (sym c.band_labels.ensures) has) meets))
