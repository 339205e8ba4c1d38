use Rattle.std.proofs.Common.{◌≡◌, ◌+◌, ◌-◌, ◌≤◌, ℕ, List, length}
use Rattle.vrp_routes.specs.Level.{IsLevel}
use Rattle.vrp_routes.specs.Shares.{AreParts}
use Rattle.vrp_routes.specs.Setting.{setting_of}
use Rattle.vrp_routes.proofs.level.extend_level.Given as goal

-- the labels were extended by the first shares
abbrev pub invariant-loop-first : goal.invariant-loop-first
invariant-loop-first g l = record {
  within : l.first ≤ l.shares;
  count : length l.parts.items ≡ l.first;
  parts : (k : ℕ) (stops : List (List ℕ)) → IsLevel (setting_of g.T.CompletionTest l.setting.test.now) k stops l.labels → AreParts (setting_of g.T.CompletionTest l.setting.test.now) (k + 1) stops l.shares 0 l.parts.items;
}

abbrev pub decreases-loop-first : goal.decreases-loop-first
decreases-loop-first g l = l.shares - l.first
