use Rattle.std.proofs.Common.{arith}
use Rattle.std.proofs.lemmas.List.Sums.{sum_by_more}
use Rattle.vrp_model.specs.Problem.{demand_of}
use Rattle.vrp_bound.proofs.scope.demand_of_all.Goals as goal

pub overflow_add-demand : goal.overflow_add-demand
overflow_add-demand c =
    omega (arith, c.args.scope.few, c.args.scope.problem.small_capacity, c.demand-demand.ensures.fits, c.loop-customer.invariant.small, c.loop-customer-test.true)

pub loop-customer-preserved : goal.loop-customer-preserved
loop-customer-preserved c =
    let p = c.args.scope.instance.now in
    let among = c.args.scope.customers.now in
    let k = c.loop-customer.customer-index in
    record {
      value = omega (arith, sum_by_more (demand_of p) among k 0 c.loop-customer-test.true, c.demand-demand.ensures.value, c.loop-customer.invariant.value);
      small = omega (arith, c.args.scope.problem.small_capacity, c.demand-demand.ensures.fits, c.loop-customer.invariant.small);
    }
