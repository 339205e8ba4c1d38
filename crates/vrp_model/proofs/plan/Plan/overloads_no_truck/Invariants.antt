use Rattle.std.proofs.Common.{◌≤◌, ◌<◌, ℕ, List, get_or}
use Rattle.vrp_model.specs.Route.{load_of}
use Rattle.vrp_model.proofs.plan.Plan.overloads_no_truck.Given as goal

abbrev pub invariant-loop-index : goal.invariant-loop-index
invariant-loop-index l = (k : ℕ) (d : List ℕ) → k < l.index → load_of l.instance (get_or l.self.routes k d) ≤ l.instance.capacity
