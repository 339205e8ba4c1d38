use Rattle.std.proofs.Common.{◌<◌, ℕ, List, get_or, length, sym, subst, arith}
use Rattle.vrp_duals.proofs.Pushed.{each_push}
use Rattle.vrp_labels.specs.Bands.{IsBand, no_band}
use Rattle.vrp_labels.specs.declared.bands.Band.{Band}
use Rattle.vrp_labels.proofs.bands.bands_of.Goals as goal

pub loop-b-preserved : goal.loop-b-preserved
loop-b-preserved c =
    let shift = c.args.shift in
    let pile = c.args.pile.now in
    let items = c.loop-b.bands.items in
    let x = c.band_of.result in
    record {
      long = omega (arith, c.in_ok-push.ensures.len, c.push.new.self.ok.0, c.loop-b.bands.ok.0, c.loop-b.invariant.long);
      each = subst (λ (xs : List Band). (k : ℕ) → k < length xs → IsBand shift k pile (get_or xs k no_band)) (sym c.in_ok-push.ensures.items)
          (each_push (λ k z. IsBand shift k pile z) no_band items x c.loop-b.invariant.each (subst (λ n. IsBand shift n pile x) (sym c.loop-b.invariant.long) c.band_of.ensures));
    }
