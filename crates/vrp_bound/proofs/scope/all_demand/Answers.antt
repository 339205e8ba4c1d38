use Rattle.std.proofs.Common.{◌≡◌, ◌≤◌, false, true, get_or, ap, refl, arith}
use Rattle.std.proofs.lemmas.List.{get_or_default}
use Rattle.vrp_model.specs.Problem.{demand_of}
use borrow.Author.Count.{below_more}
use Rattle.vrp_bound.proofs.scope.all_demand.Goals as goal

pub loop-customer-init : goal.loop-customer-init
loop-customer-init c = λ k below. absurd (omega (arith, below))

pub offset_bounds-customer-items-customer-index : goal.offset_bounds-customer-items-customer-index
offset_bounds-customer-items-customer-index c = omega (arith, c.loop-customer-test.true, c.ranges.scope.1)

pub bounds-customer-items-customer-index : goal.bounds-customer-items-customer-index
bounds-customer-items-customer-index c = c.loop-customer-test.true

pub demand-requires : goal.demand-requires
demand-requires c = c.args.scope.known c.loop-customer.customer-index 0 c.loop-customer-test.true

pub returns-then-demand-eq0 : goal.returns-then-demand-eq0
returns-then-demand-eq0 c = (
  λ is. absurd (let never : false ≡ true = is in cc),
  λ all. absurd (omega (arith, all c.loop-customer.customer-index 0 c.loop-customer-test.true, c.demand.ensures.value, c.if-demand-eq0.true)),
)

pub loop-customer-preserved : goal.loop-customer-preserved
loop-customer-preserved c =
    below_more (λ k. 1 ≤ demand_of c.args.scope.instance.now (get_or c.args.scope.customers.now k 0)) c.loop-customer.customer-index c.loop-customer.invariant (omega (arith, c.demand.ensures.value, c.if-demand-eq0.false))

pub returns : goal.returns
returns c = (
  λ _ k d inside.
      omega (arith, c.loop-customer.invariant k (omega (arith, inside, c.loop-customer-test.false)), ap (demand_of c.args.scope.instance.now) (get_or_default c.args.scope.customers.now k d 0 inside)),
  λ _. refl,
)
