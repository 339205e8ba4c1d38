use Rattle.std.proofs.Common.{◌≡◌, ◌+◌, take}
use Rattle.vrp_model.specs.Route.{plan_cost}
use Rattle.vrp_model.proofs.plan.Plan.has_its_cost.Given as goal

abbrev pub invariant-loop-index : goal.invariant-loop-index
invariant-loop-index l = l.left + plan_cost l.instance (take l.index l.self.routes) ≡ l.self.cost
