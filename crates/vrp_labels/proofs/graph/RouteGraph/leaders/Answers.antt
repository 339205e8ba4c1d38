use Rattle.std.proofs.Common.{◌≡◌, ◌<◌, ℕ, List, get_or, length, sym, subst, arith}
use Rattle.std.specs.Int.{bit_at}
use Rattle.vrp_duals.proofs.Pushed.{each_push}
use Rattle.vrp_labels.proofs.graph.RouteGraph.leaders.Goals as goal

pub loop-place-preserved : goal.loop-place-preserved
loop-place-preserved c =
    let g = c.args.self.now in
    let items = c.loop-place.sets.items in
    let x = c.leaders_of.result in
    let P = λ (k z : ℕ). (from : ℕ) → from < g.folded.places → bit_at z from ≡ bit_at (get_or g.followers from 0) k in
    record {
      long = omega (arith, c.in_ok-push.ensures.len, c.push.new.self.ok.0, c.loop-place.sets.ok.0, c.loop-place.invariant.long);
      each = subst (λ (xs : List ℕ). (k : ℕ) → k < length xs → P k (get_or xs k 0)) (sym c.in_ok-push.ensures.items)
          (each_push P 0 items x c.loop-place.invariant.each (subst (λ n. P n x) (sym c.loop-place.invariant.long) c.leaders_of.ensures));
    }

pub returns : goal.returns
returns c =
    let long : length c.loop-place.sets.items ≡ c.args.self.now.folded.places = omega (arith, c.loop-place.invariant.long, c.loop-place-test.false, c.loop-place.auto.place-end, c.places-places.ensures.value) in
    record { long = long; each = λ to from t f. c.loop-place.invariant.each to (omega (arith, t, long)) from f }
