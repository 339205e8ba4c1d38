use Rattle.std.proofs.Common.{◌<◌, ℕ, List, Vec, get_or, length, sym, subst, arith}
use Rattle.std.specs.Global.{Global}
use Rattle.vrp_duals.proofs.Pushed.{each_push}
use Rattle.vrp_labels.specs.Bands.{AreBands}
use Rattle.vrp_labels.specs.Label.{pile_at}
use Rattle.vrp_labels.specs.Sorting.{IsBanded}
use Rattle.vrp_labels.specs.declared.bands.Band.{Band}
use Rattle.vrp_labels.specs.declared.label.Label.{Label}
use Rattle.vrp_labels.proofs.bands.bands_by_place.Goals as goal

pub bands_of-requires-clause-banded : goal.bands_of-requires-clause-banded
bands_of-requires-clause-banded c = subst (IsBanded c.args.shift) (sym c.get.ensures) (c.requires.banded c.loop-place.place (omega (arith, c.loop-place-test.true, c.len-place-end.ensures)))

pub loop-place-preserved : goal.loop-place-preserved
loop-place-preserved c =
    let shift = c.args.shift in
    let kept = c.args.kept.now in
    let items = c.loop-place.bands.items in
    let x = c.in_ok-bands_of.field-0 in
    let here : AreBands shift (pile_at kept c.loop-place.place) x.items = subst (λ (p : List Label). AreBands shift p x.items) c.get.ensures c.in_ok-bands_of.ensures in
    record {
      long = omega (arith, c.in_ok-push.ensures.len, c.push.new.self.ok.0, c.loop-place.bands.ok.0, c.loop-place.invariant.long);
      each = λ k d lt.
          subst (λ (xs : List (Vec Band Global)). (k : ℕ) → k < length xs → AreBands shift (pile_at kept k) (get_or xs k d).items) (sym c.in_ok-push.ensures.items)
          (each_push (λ k (v : Vec Band Global). AreBands shift (pile_at kept k) v.items) d items x (λ k lt. c.loop-place.invariant.each k d lt)
          (subst (λ n. AreBands shift (pile_at kept n) x.items) (sym c.loop-place.invariant.long) here)) k lt;
    }
