use Rattle.std.proofs.Common.{◌≤◌, arith, refl, subst}
use Rattle.std.proofs.lemmas.List.{take_all}
use Rattle.std.proofs.lemmas.List.Elements.{All-more}
use Rattle.vrp_partition.specs.Prices.{AllFit, load_of}
use Rattle.vrp_partition.specs.declared.route.Route.{Route}
use Rattle.vrp_partition.proofs.pool.all_fit.Goals as goal

pub loop-route-preserved : goal.loop-route-preserved
loop-route-preserved c =
    let fit : Route → Type 0 = λ (r : Route). load_of c.args.demands.now r.set ≤ c.args.capacity in
    let fits : fit c.route-item.result = omega (arith, c.if-demand_of-from.false, c.demand_of.ensures.value, c.from.ensures) in
    All-more fit c.args.pool.now c.loop-route.route-index c.route-item.result c.loop-route-test.true c.loop-route.invariant (subst fit c.route-item.is fits)

pub returns : goal.returns
returns c = (λ yes. subst (AllFit c.args.demands.now c.args.capacity) (take_all c.loop-route.route-index c.args.pool.now c.loop-route-test.false) c.loop-route.invariant, λ fit. refl)
