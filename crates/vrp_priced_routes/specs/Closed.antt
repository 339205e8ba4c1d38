-- What comes of closing labels under dual prices.
use Rattle.vrp_priced_routes.specs.declared.closed.ClosedLabels.{ClosedLabels}
use Rattle.vrp_priced_routes.specs.declared.closed.Round.{Round}
use Rattle.vrp_priced_routes.specs.declared.closed.Round.TheVariants.{Closed, Met, TooWide}

-- a fact of the labels, where they were closed
abbrev pub IfRoundClosed : Round → (ClosedLabels → Type 0) → Type 0
IfRoundClosed (Closed closed) P = P closed
IfRoundClosed (Met limit) P = Unit {0}
IfRoundClosed TooWide P = Unit {0}
