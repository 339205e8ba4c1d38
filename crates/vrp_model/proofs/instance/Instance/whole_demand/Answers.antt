use Rattle.std.proofs.Common.{◌∙◌, arith}
use Rattle.vrp_model.proofs.CustomerPlaces.{demand_all, demand_more}
use Rattle.vrp_model.proofs.instance.Instance.whole_demand.Goals as goal

pub loop-index-preserved : goal.loop-index-preserved
loop-index-preserved c =
    let more = demand_more c.args.self.now c.loop-index.index (omega (arith, c.customers-index-end.ensures.value, c.loop-index-test.true)) in
    record {
      demanded = omega (arith, more, c.loop-index.invariant.demanded, c.demand-demand.ensures.value);
      small = omega (arith, c.loop-index.invariant.small, c.demand-demand.ensures.fits, c.customers-index-end.ensures.problem.small_capacity);
    }

pub returns-clause-value : goal.returns-clause-value
returns-clause-value c =
    c.loop-index.invariant.demanded ∙ demand_all c.args.self.now c.loop-index.index (omega (arith, c.customers-index-end.ensures.value, c.loop-index-test.false, c.loop-index.auto.index-end))
