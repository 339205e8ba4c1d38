use Rattle.std.proofs.Common.{◌≡◌, [], ◌∷◌, ◌*◌, ◌≤◌, map}
use Rattle.std.specs.List.{range_with_len}
use Rattle.vrp_model.specs.Route.{plan_cost}
use Rattle.vrp_model.proofs.plan.Plan.one_each.Given as goal

abbrev pub invariant-loop-index : goal.invariant-loop-index
invariant-loop-index l =
    (l.plan.routes ≡ map (λ customer. customer ∷ []) (range_with_len 1 l.index))
    × (l.plan.cost ≡ plan_cost l.instance l.plan.routes)
    × (l.plan.cost ≤ 2000000000 * l.index)
