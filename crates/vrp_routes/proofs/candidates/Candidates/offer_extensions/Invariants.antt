use Rattle.std.proofs.Common.{◌≡◌, ◌-◌, ◌%◌, ◌<◌, ◌≤◌, ℕ, List, [], length, slice_index_or}
use Rattle.vrp_routes.specs.Label.{IsLabel}
use Rattle.vrp_routes.specs.Candidates.{HasExtensions, IsKeyed}
use Rattle.vrp_routes.specs.Setting.{setting_of}
use Rattle.vrp_routes.proofs.candidates.Candidates.offer_extensions.Given as goal

-- the extensions by the stops so far were offered
abbrev pub invariant-loop-stop : goal.invariant-loop-stop
invariant-loop-stop g l = record {
  some : 1 ≤ l.stop;
  keyed : IsKeyed l.self;
  share : l.self.share ≡ l.fn.self.share;
  rest : l.stop % l.fn.self.share.shares ≡ l.fn.self.share.rest;
  extensions : (k : ℕ) (stops : List (List ℕ)) → l.parent < length stops → IsLabel (setting_of g.T.CompletionTest l.setting.test.now) (slice_index_or stops l.parent []) l.label
      → HasExtensions (setting_of g.T.CompletionTest l.setting.test.now) k stops l.parent 0 l.fn.self → HasExtensions (setting_of g.T.CompletionTest l.setting.test.now) k stops l.parent l.stop l.self;
}

abbrev pub decreases-loop-stop : goal.decreases-loop-stop
decreases-loop-stop g l = l.places - l.stop
