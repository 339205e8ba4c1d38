use Rattle.std.proofs.Common.{◌<◌, ◌+◌, ◌*◌, length, ap, ◌∙◌, arith}
use Rattle.vrp_bound_prices.specs.Priced.{rebate_in}
use Rattle.vrp_bound_prices.proofs.CustomerSums.{sum_all, sum_more}
use Rattle.vrp_bound_prices.proofs.prices.rebate_rewards.Goals as goal

pub loop-index-preserved : goal.loop-index-preserved
loop-index-preserved c =
    let more = sum_more (rebate_in c.args.prices.now) c.args.instance.now c.loop-index.index (omega (arith, c.customers-index-end.ensures.value, c.loop-index-test.true, c.loop-index.auto.index-end)) in
    let within : c.loop-index.index + 1 < length c.args.prices.now = omega (arith, c.requires.one_each, c.customers-index-end.ensures.value, c.loop-index-test.true, c.loop-index.auto.index-end) in
    let moderate = (c.requires.moderate (c.loop-index.index + 1) within).1 in
    record {
      summed = omega (arith, more, c.loop-index.invariant.summed, c.rebate_at-whole.ensures);
      small = omega (arith, moderate, c.loop-index.invariant.small, c.rebate_at-whole.ensures);
    }

pub returns-clause-value : goal.returns-clause-value
returns-clause-value c =
    ap (λ n. 2 * n) (c.loop-index.invariant.summed ∙ sum_all (rebate_in c.args.prices.now) c.args.instance.now c.loop-index.index (omega (arith, c.customers-index-end.ensures.value, c.loop-index-test.false, c.loop-index.auto.index-end)))
