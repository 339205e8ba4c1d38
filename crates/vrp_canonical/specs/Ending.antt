-- What the search for the canonical plan among listed routes came to.
use Rattle.std.specs.Prelude.{IfSome, ℕ, ⊤}
use Rattle.vrp_canonical.specs.declared.canonical.RoutesOutcome.{RoutesOutcome}
use Rattle.vrp_canonical.specs.declared.canonical.RoutesOutcome.TheVariants.{Canonical, Unfinished}
use Rattle.vrp_model.specs.Route.{PricedPlan}

-- what holds of the bound, where the search ended unfinished
abbrev pub IfBound : (ℕ → Type 0) → RoutesOutcome → Type 0
IfBound fact (Canonical plan) = ⊤
IfBound fact (Unfinished better lower_bound) = fact lower_bound

-- what holds of the plan that was found
abbrev pub IfCanonical : (PricedPlan → Type 0) → RoutesOutcome → Type 0
IfCanonical fact (Canonical plan) = fact plan
IfCanonical fact (Unfinished better lower_bound) = ⊤

-- what holds of the better plan of an unfinished search, if it found one
abbrev pub IfBetter : (PricedPlan → Type 0) → RoutesOutcome → Type 0
IfBetter fact (Canonical plan) = ⊤
IfBetter fact (Unfinished better lower_bound) = IfSome better fact
