use Rattle.std.proofs.Common.{◌≡◌, ◌*◌, ◌≤◌, refl, ap, ◌∙◌, arith}
use Rattle.std.proofs.lemmas.Nat.{mul-le}
use Rattle.vrp_bound_prices.proofs.CutSums.{all_cuts, next_cut, cut_price_of_trucks}
use Rattle.vrp_bound_prices.proofs.cut_prices.cut_rewards.Goals as goal

pub overflow_add-whole : goal.overflow_add-whole
overflow_add-whole c =
    let most : c.cut_price.result * c.trucks.result ≤ 1000000000000 * 1200 = mul-le c.cut_price.result c.trucks.result 1000000000000 1200 c.cut_price.ensures.small c.trucks.ensures.few in
    omega (arith, most, c.loop-cut.invariant.small, c.loop-cut-test.true, c.requires.few)

pub loop-cut-preserved : goal.loop-cut-preserved
loop-cut-preserved c =
    let most : c.cut_price.result * c.trucks.result ≤ 1000000000000 * 1200 = mul-le c.cut_price.result c.trucks.result 1000000000000 1200 c.cut_price.ensures.small c.trucks.ensures.few in
    let here : c.cut_price.result * c.trucks.result ≡ cut_price_of_trucks c.cut-item.result = rw (c.cut_price.ensures.value, c.trucks.ensures.value) refl in
    let next = next_cut cut_price_of_trucks c.args.cuts.now c.loop-cut.cut-index c.cut-item.result c.cut-item.is c.loop-cut-test.true in
    record {
      summed = omega (arith, next, here, c.loop-cut.invariant.summed);
      small = omega (arith, most, c.loop-cut.invariant.small);
    }

pub returns-clause-value : goal.returns-clause-value
returns-clause-value c = ap (λ n. 2 * n) (c.loop-cut.invariant.summed ∙ all_cuts cut_price_of_trucks c.args.cuts.now c.loop-cut.cut-index (omega (arith, c.loop-cut-test.false, c.loop-cut.auto.cut-index-end)))
