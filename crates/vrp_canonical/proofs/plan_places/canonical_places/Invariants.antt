use Rattle.std.proofs.Common.{◌-◌, ◌<◌, ◌≤◌, ℕ, List, length}
use Rattle.std.specs.List.{All}
use Rattle.vrp_canonical.specs.Asking.{IsRight}
use Rattle.vrp_canonical.specs.Passing.{IsBegun}
use Rattle.vrp_canonical.specs.Reaching.{IsTask}
use Rattle.vrp_model.specs.Problem.{Problem}
use Rattle.vrp_canonical.proofs.plan_places.canonical_places.Given as goal

abbrev pub invariant-loop-index : goal.invariant-loop-index
invariant-loop-index g l = record {
  within : All (λ at. at < length l.pool) l.chosen.items;
  right : All (IsRight l.pool) l.answers.items;
  end : l.index ≤ length l.pool;
  begun : (p : Problem) (limit : ℕ) (stops : List (List ℕ)) (task : IsTask p limit stops l.pool l.fn.whole) → IsBegun p stops task.plan l.fn.whole l.index l.chosen.items l.rest;
}

abbrev pub decreases-loop-index : goal.decreases-loop-index
decreases-loop-index g l = length l.pool - l.index
