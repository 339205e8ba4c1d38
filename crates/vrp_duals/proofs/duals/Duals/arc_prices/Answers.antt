use Rattle.std.proofs.Common.{◌≡◌, ◌*◌, ◌/◌, ◌%◌, ◌<◌, ◌≤◌, ◌∙◌, ℕ, ℤ, List, pos, get_or, length, ap, sym, subst, unsigned_abs, arith, to_z, of_z, w64}
use Rattle.std.specs.List.{All}
use Rattle.std.proofs.lemmas.List.{length_push}
use Rattle.std.proofs.lemmas.List.Elements.{All-push}
use Rattle.vrp_duals.specs.Duals.{DualsOf}
use Rattle.vrp_duals.specs.Folding.{arc_price}
use Rattle.vrp_duals.specs.declared.limits.TheConstants.{MAX_ARC_PRICE}
use Rattle.vrp_duals.proofs.ArcSteps.{same_z, table_at}
use Rattle.vrp_duals.proofs.Pushed.{each_push}
use Rattle.vrp_duals.proofs.duals.Duals.arc_prices.Goals as goal

pub loop-index-preserved : goal.loop-index-preserved
loop-index-preserved c =
    let p = c.args.instance.now in
    let d = c.args.self.now in
    let n = c.len-places.result in
    let items = c.loop-index.arcs.items in
    let x = to_z w64 (of_z w64 c.arc_price.result) in
    let same : x ≡ c.arc_price.result = same_z c.arc_price.result (omega (arith, c.arc_price.ensures.small)) in
    let value : x ≡ arc_price p d (length items / n) (length items % n) = same ∙ (c.arc_price.ensures.value ∙ ap (λ k. arc_price p d (k / n) (k % n)) (sym c.loop-index.invariant.long)) in
    let longer = c.in_ok-push.ensures.items in
    record {
      long = omega (arith, ap (λ (xs : List ℤ). length xs) longer, length_push items x, c.loop-index.invariant.long);
      each = subst (λ (xs : List ℤ). (k : ℕ) → k < length xs → get_or xs k (pos 0) ≡ arc_price p d (k / n) (k % n)) (sym longer) (each_push (λ k z. z ≡ arc_price p d (k / n) (k % n)) (pos 0) items x c.loop-index.invariant.each value);
      small = subst (All (λ price. unsigned_abs price ≤ MAX_ARC_PRICE)) (sym longer) (All-push (λ price. unsigned_abs price ≤ MAX_ARC_PRICE) items x c.loop-index.invariant.small (subst (λ z. unsigned_abs z ≤ MAX_ARC_PRICE) (sym same) c.arc_price.ensures.small));
    }

pub returns-clause-value : goal.returns-clause-value
returns-clause-value c =
    let p = c.args.instance.now in
    let d = c.args.self.now in
    let places : c.len-places.result ≡ length d.prices = omega (arith, c.len-places.ensures, c.self.inside.prices.ok, ap (λ (d : DualsOf). length d.prices) c.self.view_is) in
    table_at (arc_price p d) c.loop-index.arcs.items (length d.prices) (omega (arith, c.loop-index.invariant.long, c.loop-index-test.false, c.loop-index.auto.index-end, ap (λ n. n * n) places))
    (subst (λ n. (k : ℕ) → k < length c.loop-index.arcs.items → get_or c.loop-index.arcs.items k (pos 0) ≡ arc_price p d (k / n) (k % n)) places c.loop-index.invariant.each)
