use Rattle.std.proofs.Common.{◌≡◌, ◌-◌, ◌<◌, ◌≤◌, ℕ, Ok, length, get_or}
use Rattle.vrp_routes.proofs.tasks.values_of.Given as goal

-- the values so far are those of the first tasks
abbrev pub invariant-loop-first : goal.invariant-loop-first
invariant-loop-first g l = record {
  within : l.first ≤ l.tasks;
  count : length l.values.items ≡ l.first;
  each : (i : ℕ) (d : g.row.X.Denot) → i < l.first → g.F.Fn.post l.task (i, tt) (Ok (get_or l.values.items i d));
}

abbrev pub decreases-loop-first : goal.decreases-loop-first
decreases-loop-first g l = l.tasks - l.first
