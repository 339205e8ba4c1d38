use Rattle.std.proofs.Common.{◌≡◌, ℕ, List}
use Rattle.vrp_routes.specs.Candidates.{HasExtensions, IsKeyed}
use Rattle.vrp_routes.specs.Level.{IsLevel}
use Rattle.vrp_routes.specs.Setting.{setting_of}
use Rattle.vrp_routes.proofs.candidates.Candidates.extended.Given as goal

-- the extensions of the labels so far were offered
abbrev pub invariant-loop-parent : goal.invariant-loop-parent
invariant-loop-parent g l = record {
  keyed : IsKeyed l.self;
  share : l.self.share ≡ l.fn.self.share;
  extensions : (k : ℕ) (stops : List (List ℕ)) → IsLevel (setting_of g.T.CompletionTest l.setting.test.now) k stops l.labels → HasExtensions (setting_of g.T.CompletionTest l.setting.test.now) k stops l.from 0 l.fn.self → HasExtensions (setting_of g.T.CompletionTest l.setting.test.now) k stops l.parent 0 l.self;
}
