use Rattle.std.proofs.Common.{◌≡◌, ◌*◌, ◌≤◌, ◌<◌, take}
use Rattle.vrp_model.specs.Problem.{place_count}
use Rattle.vrp_model.specs.Route.{cost_along}
use Rattle.vrp_model.proofs.Words.{last_behind}
use Rattle.vrp_model.proofs.plan.route_cost.Given as goal

abbrev pub invariant-loop-stop : goal.invariant-loop-stop
invariant-loop-stop l =
    (l.cost ≡ cost_along l.instance 0 (take l.stop-index l.stops))
    × (l.cost ≤ 1000000000 * l.stop-index)
    × (l.at ≡ last_behind 0 (take l.stop-index l.stops))
    × (l.at < place_count l.instance)
