use Rattle.std.proofs.Common.{◌≢◌, ◌<◌, ℕ, List, [], get_or}
use Rattle.vrp_model.proofs.plan.Plan.stops_in_each_route.Given as goal

abbrev pub invariant-loop-index : goal.invariant-loop-index
invariant-loop-index l = (k : ℕ) (d : List ℕ) → k < l.index → get_or l.self.routes k d ≢ []
