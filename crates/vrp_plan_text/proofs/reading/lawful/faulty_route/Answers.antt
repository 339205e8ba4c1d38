use Rattle.std.proofs.Common.{get_or, take, subst, sym, arith}
use Rattle.std.specs.List.{concat}
use Rattle.vrp_model.proofs.CustomerPlaces.{customer_below}
use Rattle.vrp_plan_text.specs.Solution.{AreCustomers}
use Rattle.vrp_plan_text.specs.declared.reading.route.NonemptyRoute.{NonemptyRoute}
use Rattle.vrp_plan_text.proofs.FaultyRoutes.{different_stops, one_more_served, overloaded, served_twice, stops_in}
use Rattle.vrp_plan_text.proofs.reading.lawful.faulty_route.Goals as goal

pub served_before-requires : goal.served_before-requires
served_before-requires c = λ k d within.
    let p = c.args.instance.now in
    let i = c.loop-route.route-index in
    let known = subst (λ (r : NonemptyRoute). AreCustomers p r.stops.items) (sym c.route-item.is) (c.requires.customers i c.route-item.result c.loop-route-test.true) in
    let here = subst (AreCustomers p) (sym c.deref.ensures.value) known in
    omega (arith, customer_below p (get_or c.deref.result.now k d) (here k d within), c.loop-route.invariant.places)

pub returns-in-Some : goal.returns-in-Some
returns-in-Some c =
    let i = c.loop-route.route-index in
    let passed = concat (stops_in (take i c.args.routes.now)) in
    served_twice c.args.instance.now c.loop-route.served c.args.routes.now i c.route-item.result c.deref.result.now c.in-Some.customer c.loop-route-test.true c.route-item.is c.deref.ensures.value c.loop-route.invariant (c.in-Some.ensures passed c.loop-route.invariant.marks c.loop-route.invariant.once)

pub load-load-requires-clause-customers : goal.load-load-requires-clause-customers
load-load-requires-clause-customers c =
    subst (λ (r : NonemptyRoute). AreCustomers c.args.instance.now r.stops.items) (sym c.route-item.is) (c.requires.customers c.loop-route.route-index c.route-item.result c.loop-route-test.true)

pub load-load-requires-clause-once : goal.load-load-requires-clause-once
load-load-requires-clause-once c =
    let passed = concat (stops_in (take c.loop-route.route-index c.args.routes.now)) in
    rw (← c.deref.ensures.value) (different_stops passed c.deref.result.now (c.in_default.ensures passed c.loop-route.invariant.marks c.loop-route.invariant.once).1)

pub returns-then-capacity-load : goal.returns-then-capacity-load
returns-then-capacity-load c =
    let passed = concat (stops_in (take c.loop-route.route-index c.args.routes.now)) in
    let different = (c.in_default.ensures passed c.loop-route.invariant.marks c.loop-route.invariant.once).1 in
    overloaded c.args.instance.now c.loop-route.served c.args.routes.now c.loop-route.route-index c.route-item.result c.deref.result.now c.load-load.result c.capacity-capacity.result c.loop-route-test.true c.route-item.is c.deref.ensures.value c.loop-route.invariant
    different c.load-load.ensures c.capacity-capacity.ensures.value c.if-capacity-load.true

pub loop-route-preserved : goal.loop-route-preserved
loop-route-preserved c =
    let i = c.loop-route.route-index in
    let passed = concat (stops_in (take i c.args.routes.now)) in
    one_more_served c.args.instance.now c.args.routes.now i c.route-item.result c.loop-route.served c.served_before.new.served c.deref.result.now c.loop-route-test.true c.route-item.is c.deref.ensures.value c.loop-route.invariant (omega arith)
    (c.in_default.ensures passed c.loop-route.invariant.marks c.loop-route.invariant.once)
    (omega (arith, c.load-load.ensures, c.capacity-capacity.ensures.value, c.if-capacity-load.false))
