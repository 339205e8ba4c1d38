use Rattle.std.proofs.Common.{◌-◌}
use Rattle.vrp_routes.specs.Listing.{IsListing}
use Rattle.vrp_routes.specs.Setting.{setting_of}
use Rattle.vrp_routes.proofs.listing.list_routes.Given as goal

-- the levels so far are listed
abbrev pub invariant-loop-level : goal.invariant-loop-level
invariant-loop-level g l = IsListing (setting_of g.T.CompletionTest l.setting.test.now) (l._level - 1) l.listing
