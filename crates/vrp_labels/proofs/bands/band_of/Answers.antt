use Rattle.std.proofs.Common.{◌≡◌, ◌≤◌, ◌<◌, ◌≤ℤ◌, ◌*◌, ◌^◌, ◌∙◌, ℤ, inl, inr, sym, subst, arith, rules, to_z, of_z, w64, unsigned_abs}
use Rattle.std.proofs.lemmas.Int.{ints}
use Rattle.std.proofs.lemmas.List.{get_or_default}
use Rattle.vrp_labels.specs.Bands.{label_at}
use Rattle.vrp_labels.specs.Label.{root_label}
use Rattle.vrp_labels.specs.Sorting.{band_at}
use Rattle.vrp_labels.specs.declared.label.Label.{Label}
use Rattle.vrp_labels.proofs.LoadBands.{higher_on, scanned_band, scanned_more}
use Rattle.vrp_labels.proofs.SignedSums.{min_either}
use Rattle.vrp_labels.proofs.bands.band_of.Goals.{then-at-b-2, else-at-b-2}
use Rattle.vrp_labels.proofs.bands.band_of.Goals as goal

pub returns-then-at-b : goal.returns-then-at-b
returns-then-at-b c =
    let pile = c.args.pile.now in
    let i = c.loop-label.label-index in
    let x = c.label-item.result in
    let item : x ≡ label_at pile i = c.label-item.is ∙ get_or_default pile i x root_label c.loop-label-test.true in
    let above : c.args.b < band_at c.args.shift (label_at pile i).load = subst (λ (l : Label). c.args.b < band_at c.args.shift l.load) item c.if-at-b.true in
    scanned_band c.args.shift c.args.b pile c.loop-label.from c.loop-label.to (to_z w64 c.loop-label.least-bits) c.requires.banded c.loop-label.invariant.scanned (omega (arith, c.loop-label.invariant.index, c.loop-label-test.true))
    (λ k past lt. higher_on c.args.shift c.args.b pile i c.requires.banded above k (omega (arith, past, c.loop-label.invariant.index)) lt)

pub returns : goal.returns
returns c =
    scanned_band c.args.shift c.args.b c.args.pile.now c.loop-label.from c.loop-label.to (to_z w64 c.loop-label.least-bits) c.requires.banded c.loop-label.invariant.scanned (omega (arith, c.loop-label.invariant.index, c.loop-label.auto.label-index-end))
    (λ k past lt. absurd (omega (arith, past, lt, c.loop-label.invariant.index, c.loop-label-test.false)))

pub loop-label-preserved : goal.loop-label-preserved
loop-label-preserved c =
    let shift = c.args.shift in
    let b = c.args.b in
    let pile = c.args.pile.now in
    let i = c.loop-label.label-index in
    let to = c.loop-label.to in
    let x = c.label-item.result in
    let least = to_z w64 c.loop-label.least-bits in
    let lesser = to_z w64 (of_z w64 c.min-least.result) in
    let at : to ≡ i = c.loop-label.invariant.index in
    let item : x ≡ label_at pile to = c.label-item.is ∙ (get_or_default pile i x root_label c.loop-label-test.true ∙ subst (λ n. label_at pile i ≡ label_at pile n) (sym at) cc) in
    let same : lesser ≡ c.min-least.result = search (rules, ints) in
    let cost : to_z w64 (of_z w64 x.cost) ≡ x.cost = search (rules, ints) in
    let small : unsigned_abs x.cost ≤ 3 * 2 ^ 60 = subst (λ (l : Label). unsigned_abs l.cost ≤ 3 * 2 ^ 60) (sym c.label-item.is) (c.requires.small i x c.loop-label-test.true) in
    let low : lesser ≤ℤ least = subst (λ (z : ℤ). z ≤ℤ least) (sym same) c.min-least.ensures.self_bound in
    let here : lesser ≤ℤ x.cost = subst (λ (z : ℤ). lesser ≤ℤ z) cost (subst (λ (z : ℤ). z ≤ℤ to_z w64 (of_z w64 x.cost)) (sym same) c.min-least.ensures.other_bound) in
    let within : unsigned_abs lesser ≤ 3 * 2 ^ 60 = subst (λ (z : ℤ). unsigned_abs z ≤ 3 * 2 ^ 60) (sym (same ∙ c.min-least.ensures.value)) (elim (min_either least (to_z w64 (of_z w64 x.cost))) [
      | inl first ↦ subst (λ (z : ℤ). unsigned_abs z ≤ 3 * 2 ^ 60) (sym first) c.loop-label.invariant.scanned.small
      | inr other ↦ subst (λ (z : ℤ). unsigned_abs z ≤ 3 * 2 ^ 60) (sym (other ∙ cost)) small
    ]) in
    let load : band_at shift x.load ≡ band_at shift (label_at pile to).load = subst (λ (l : Label). band_at shift x.load ≡ band_at shift l.load) item cc in
    record {
      index = omega (arith, at);
      scanned = scanned_more shift b pile c.loop-label.from c.if-at-b-2.from to least lesser c.requires.banded (omega (arith, at, c.loop-label-test.true)) c.loop-label.invariant.scanned low
          (subst (λ (l : Label). lesser ≤ℤ l.cost) item here) within
          (λ less. elim c.if-at-b-2.branch [ then-at-b-2 w ↦ w.from-is | else-at-b-2 w ↦ absurd (omega (arith, less, load, w.if-at-b-2.false)) ])
          (λ not_less. elim c.if-at-b-2.branch [ then-at-b-2 w ↦ absurd (omega (arith, not_less, load, w.if-at-b-2.true)) | else-at-b-2 w ↦ w.from-is ])
          (omega (arith, load, c.if-at-b.false));
    }
