use Rattle.std.proofs.Common.{◌≡◌, ◌<◌, ℕ}
use Rattle.vrp_canonical.specs.Passing.{route_in}
use Rattle.vrp_canonical.proofs.ordered.place_of.Given as goal

abbrev pub invariant-loop-at : goal.invariant-loop-at
invariant-loop-at l = (k : ℕ) → k < l.at → route_in l.routes k ≡ l.route → ⊥
