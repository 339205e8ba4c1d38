use Rattle.std.proofs.Common.{ap}
use Rattle.std.specs.Option.{option_map}
use Rattle.vrp_solver.proofs.better_plan.better_plan.Goals as goal

pub improved_plan-requires-after_bounds : goal.improved_plan-requires-after_bounds
improved_plan-requires-after_bounds g c κs within =
    c.shared.invariant.2 c.in-Some.known.now (ap (option_map (λ plan. plan.now)) c.in-Some.is)
