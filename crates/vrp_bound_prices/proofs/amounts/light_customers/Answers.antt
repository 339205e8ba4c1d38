use Rattle.std.proofs.Common.{◌≡◌, ◌+◌, ◌∙◌, arith}
use Rattle.vrp_bound_prices.specs.Units.{light_one}
use Rattle.vrp_bound_prices.proofs.CustomerSums.{sum_all, sum_more}
use Rattle.vrp_bound_prices.proofs.InUnits.{heavy_is_none, light_is_one}
use Rattle.vrp_bound_prices.proofs.amounts.light_customers.Goals as goal
use Rattle.vrp_bound_prices.proofs.amounts.light_customers.Goals.{then-demand-unit, else-demand-unit}

pub loop-index-preserved : goal.loop-index-preserved
loop-index-preserved c =
    let p = c.args.instance.now in
    let k = c.loop-index.index + 1 in
    let more = sum_more (light_one p c.args.unit) p c.loop-index.index (omega (arith, c.customers-index-end.ensures.value, c.loop-index-test.true, c.loop-index.auto.index-end)) in
    elim c.if-demand-unit.branch [
      | then-demand-unit w ↦
          let one : light_one p c.args.unit k ≡ 1 = light_is_one p c.args.unit k (omega (arith, w.if-demand-unit.true, c.demand.ensures.value)) in
          record { counted = omega (arith, more, one, w.light-is, c.loop-index.invariant.counted); few = omega (arith, w.light-is, c.loop-index.invariant.few) }
      | else-demand-unit w ↦
          let none : light_one p c.args.unit k ≡ 0 = heavy_is_none p c.args.unit k (omega (arith, w.if-demand-unit.false, c.demand.ensures.value)) in
          record { counted = omega (arith, more, none, w.light-is, c.loop-index.invariant.counted); few = omega (arith, w.light-is, c.loop-index.invariant.few) }
    ]

pub returns-clause-value : goal.returns-clause-value
returns-clause-value c =
    c.loop-index.invariant.counted ∙ sum_all (light_one c.args.instance.now c.args.unit) c.args.instance.now c.loop-index.index (omega (arith, c.customers-index-end.ensures.value, c.loop-index-test.false, c.loop-index.auto.index-end))
