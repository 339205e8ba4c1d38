use Rattle.std.proofs.Common.{◌-◌, ◌<◌, ◌≤◌, ℕ, List}
use Rattle.vrp_canonical.specs.Passing.{GoesBelow, IsBegun}
use Rattle.vrp_canonical.specs.Reaching.{IsTask, routes_at}
use Rattle.vrp_canonical.specs.declared.residual.Residual.{Residual}
use Rattle.vrp_model.specs.Problem.{Problem}
use Rattle.vrp_canonical.proofs.halving.narrow.Given as goal

abbrev pub invariant-loop-high : goal.invariant-loop-high
invariant-loop-high g l = record {
  from : l.question.low ≤ l.low;
  some : l.low < l.high;
  to : l.high ≤ l.question.high;
  begun : (p : Problem) (limit : ℕ) (stops : List (List ℕ)) (whole : Residual) (chosen : List ℕ) (task : IsTask p limit stops l.pool whole)
      → IsBegun p stops task.plan whole l.question.low chosen l.question.rest → IsBegun p stops task.plan whole l.low chosen l.question.rest;
  below : (p : Problem) (limit : ℕ) (stops : List (List ℕ)) (whole : Residual) (chosen : List ℕ) (task : IsTask p limit stops l.pool whole)
      → IsBegun p stops task.plan whole l.question.low chosen l.question.rest → GoesBelow p stops whole.most (routes_at stops chosen) l.high;
}

abbrev pub decreases-loop-high : goal.decreases-loop-high
decreases-loop-high g l = l.high - l.low
