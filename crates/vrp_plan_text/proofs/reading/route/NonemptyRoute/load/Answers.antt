use Rattle.std.proofs.Common.{get_or, subst, sym, arith}
use Rattle.vrp_model.proofs.CustomerPlaces.{customer_below}
use Rattle.vrp_plan_text.specs.Solution.{AreCustomers}
use Rattle.vrp_plan_text.specs.Inner.Served.{AreDifferent}
use Rattle.vrp_plan_text.proofs.ServedStops.{load_fits}
use Rattle.vrp_plan_text.proofs.reading.route.NonemptyRoute.load.Goals as goal

pub demand-load-requires : goal.demand-load-requires
demand-load-requires c =
    let p = c.args.instance.now in
    let stops = c.deref-stop-items.result.now in
    let known = subst (AreCustomers p) (sym c.deref-stop-items.ensures.value) c.requires.customers in
    customer_below p (get_or stops c.loop-stop.stop-index 0) (known c.loop-stop.stop-index 0 c.loop-stop-test.true)

pub overflow_add-load : goal.overflow_add-load
overflow_add-load c =
    let p = c.args.instance.now in
    let stops = c.deref-stop-items.result.now in
    let known = subst (AreCustomers p) (sym c.deref-stop-items.ensures.value) c.requires.customers in
    let once = subst AreDifferent (sym c.deref-stop-items.ensures.value) c.requires.once in
    let fits = load_fits p stops c.loop-stop.stop-index c.loop-stop.load c.demand-load.result c.customers-customers.ensures.problem known once c.loop-stop-test.true c.loop-stop.invariant c.demand-load.ensures.value in
    omega (arith, fits)
