use Rattle.std.proofs.Common.{◌≡◌, ◌-◌, arith}
use Rattle.vrp_model.specs.Problem.{place_count}
use Rattle.vrp_model.proofs.PlanLemmas.{IsLawful-singles, plan_cost_push, rising_with_single, singles_push}
use Rattle.vrp_model.proofs.SinglesWord.{lawful_singles}
use Rattle.vrp_model.proofs.plan.Plan.one_each.Goals as goal

pub with_route-requires-clause-rising : goal.with_route-requires-clause-rising
with_route-requires-clause-rising c = rising_with_single c.loop-index.plan.routes c.loop-index.index c.loop-index.invariant.0

pub loop-index-preserved : goal.loop-index-preserved
loop-index-preserved c =
    let so_far = c.loop-index.invariant in (
      rw c.in_ok-plan-2.ensures.routes (singles_push _ _ so_far.0),
      rw (c.in_ok-plan-2.ensures.routes, plan_cost_push c.args.instance.now) (omega (arith, c.in_ok-plan-2.ensures.cost)),
      omega (arith, c.in_ok-plan-2.ensures.cost),
    )

pub returns-clause-lawful : goal.returns-clause-lawful
returns-clause-lawful c =
    let all : c.loop-index.index ≡ place_count c.args.instance.now - 1 = omega arith in
    record {
      lawful = rw (c.loop-index.invariant.0, all) (IsLawful-singles _ c.customers-customers.ensures.problem c.requires);
      priced = c.loop-index.invariant.1;
    }

pub returns-clause-word : goal.returns-clause-word
returns-clause-word c =
    let p = c.args.instance.now in
    let all : c.loop-index.index ≡ place_count p - 1 = omega arith in
    rw (c.loop-index.invariant.0, all) (lawful_singles p c.customers-customers.ensures.problem c.requires)
