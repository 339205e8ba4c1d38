use Rattle.std.proofs.Common.{◌≤◌, ℕ, List, drop}
use Rattle.vrp_routes.specs.ClosedLevel.{HasPlaces, is_closed_in}
use Rattle.vrp_routes.specs.Level.{IsLevel}
use Rattle.vrp_routes.specs.Setting.{setting_of}
use Rattle.vrp_routes.proofs.ClosedSteps.{ClosesSome}
use Rattle.vrp_routes.proofs.closed.close_share.Given as goal

-- the labels so far were closed
abbrev pub invariant-loop-at : goal.invariant-loop-at
invariant-loop-at g l = record {
  places : HasPlaces l.closed;
  closes : (k : ℕ) (stops : List (List ℕ)) → 1 ≤ k → IsLevel (setting_of g.T.CompletionTest l.setting.test.now) k (drop l.start stops) l.labels → ClosesSome (setting_of g.T.CompletionTest l.setting.test.now).problem (setting_of g.T.CompletionTest l.setting.test.now).range (is_closed_in l.share) l.start stops l.at l.closed;
}
