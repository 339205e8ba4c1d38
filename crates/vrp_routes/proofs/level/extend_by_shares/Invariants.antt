use Rattle.std.proofs.Common.{◌≡◌, ◌≤◌, ℕ, List, ◌-◌, length}
use Rattle.vrp_routes.specs.Level.{IsLevel}
use Rattle.vrp_routes.specs.Shares.{AreFinding, AreShares}
use Rattle.vrp_routes.specs.Setting.{setting_of}
use Rattle.vrp_routes.proofs.level.extend_by_shares.Given as goal

-- the labels so far were extended by these shares
abbrev pub invariant-loop-from : goal.invariant-loop-from
invariant-loop-from g l = record {
  within : l.from ≤ length l.labels;
  count : length l.found.items ≡ l.fn.range.count;
  shares : AreShares l.fn.range.shares l.fn.range.first l.found.items;
  finding : (k : ℕ) (stops : List (List ℕ)) → IsLevel (setting_of g.T.CompletionTest l.setting.test.now) k stops l.labels → AreFinding (setting_of g.T.CompletionTest l.setting.test.now) k stops l.from l.found.items;
}

abbrev pub decreases-loop-from : goal.decreases-loop-from
decreases-loop-from g l = length l.labels - l.from
