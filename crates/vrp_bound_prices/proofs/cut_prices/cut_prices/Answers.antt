use Rattle.std.proofs.Common.{◌≡◌, if◌then◌else◌, refl, sym, subst, ◌∙◌, arith}
use Rattle.vrp_bound_prices.proofs.CutSums.{all_cuts, next_cut, cut_price_across}
use Rattle.vrp_bound_prices.proofs.cut_prices.cut_prices.Goals as goal
use Rattle.vrp_bound_prices.proofs.cut_prices.cut_prices.Goals.{then-is_crossed, else-is_crossed}

pub loop-cut-preserved : goal.loop-cut-preserved
loop-cut-preserved c =
    let next = next_cut (cut_price_across c.args.from c.args.to) c.args.cuts.now c.loop-cut.cut-index c.cut-item.result c.cut-item.is c.loop-cut-test.true in
    elim c.if-is_crossed.branch [
      | then-is_crossed w ↦
          let here : cut_price_across c.args.from c.args.to c.cut-item.result ≡ c.cut-item.result.cut_price = subst (λ b. (if b then c.cut-item.result.cut_price else 0) ≡ c.cut-item.result.cut_price) (sym w.if-is_crossed.true ∙ c.is_crossed.ensures) refl in
          record {
            summed = omega (arith, next, here, w.whole-is, w.cut_price-whole.ensures.value, c.loop-cut.invariant.summed);
            small = omega (arith, w.whole-is, w.cut_price-whole.ensures.small, c.loop-cut.invariant.small);
          }
      | else-is_crossed w ↦
          let here : cut_price_across c.args.from c.args.to c.cut-item.result ≡ 0 = subst (λ b. (if b then c.cut-item.result.cut_price else 0) ≡ 0) (sym w.if-is_crossed.false ∙ c.is_crossed.ensures) refl in
          record {
            summed = omega (arith, next, here, w.whole-is, c.loop-cut.invariant.summed);
            small = omega (arith, w.whole-is, c.loop-cut.invariant.small);
          }
    ]

pub returns-clause-value : goal.returns-clause-value
returns-clause-value c = c.loop-cut.invariant.summed ∙ all_cuts (cut_price_across c.args.from c.args.to) c.args.cuts.now c.loop-cut.cut-index (omega (arith, c.loop-cut-test.false, c.loop-cut.auto.cut-index-end))
