use Rattle.std.proofs.Common.{◌+◌, ◌<◌, ℕ, get_or}
use Rattle.vrp_canonical.specs.Ordering.{stops_of}
use Rattle.vrp_canonical.specs.declared.ordered.ListedRoute.{ListedRoute}
use Rattle.vrp_model.specs.Order.{IsEarlier}
use Rattle.vrp_canonical.proofs.ordered.are_rising.Given as goal

abbrev pub invariant-loop-index : goal.invariant-loop-index
invariant-loop-index l = (k : ℕ) (d e : ListedRoute) → k + 1 < l.index → IsEarlier (stops_of (get_or l.listed k d)) (stops_of (get_or l.listed (k + 1) e))
