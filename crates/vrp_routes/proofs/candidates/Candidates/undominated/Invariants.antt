use Rattle.std.proofs.Common.{◌≤◌, length}
use Rattle.vrp_routes.proofs.Undominated.{KeepsSome}
use Rattle.vrp_routes.proofs.candidates.Candidates.undominated.Given as goal

-- those kept so far
abbrev pub invariant-loop-at : goal.invariant-loop-at
invariant-loop-at g l = record {
  keeps : KeepsSome l.self l.at l.labels.items;
  few : length l.labels.items ≤ l.at;
}
