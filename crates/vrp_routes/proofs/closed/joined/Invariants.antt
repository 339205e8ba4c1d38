use Rattle.std.proofs.Common.{◌≡◌, ◌++◌, ℕ, List, length}
use Rattle.vrp_model.specs.Problem.{Problem}
use Rattle.vrp_routes.specs.ClosedLevel.{AreClosedIn, AreClosedParts}
use Rattle.vrp_routes.proofs.ClosingShares.{is_closed_before}
use Rattle.vrp_routes.proofs.closed.joined.Given as goal
use Rattle.vrp_routes.specs.declared.plan_range.PlanRange.{PlanRange}

-- the routes of the shares so far
abbrev pub invariant-loop-part : goal.invariant-loop-part
invariant-loop-part l = record {
  split : l.fn.parts.items ≡ l.yielded ++ l.part-iterator.rest.items;
  closed : (p : Problem) (range : PlanRange) (k : ℕ) (stops : List (List ℕ)) → AreClosedParts p range k stops l.fn.parts.items → AreClosedIn p range k (is_closed_before (length l.yielded)) stops l.routes.items;
}
