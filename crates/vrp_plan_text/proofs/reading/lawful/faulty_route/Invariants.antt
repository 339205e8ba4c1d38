use Rattle.std.proofs.Common.{map, take}
use Rattle.vrp_plan_text.specs.Inner.Served.{AreServed}
use Rattle.vrp_plan_text.proofs.reading.lawful.faulty_route.Given as goal

abbrev pub invariant-loop-route : goal.invariant-loop-route
invariant-loop-route l = AreServed l.instance l.served (map (λ route. route.stops.items) (take l.route-index l.routes))
