-- What comes of a search for routes.
use Rattle.vrp_columns_and_cuts.specs.declared.pricing.pricer.Priced.{Priced}
use Rattle.vrp_columns_and_cuts.specs.declared.pricing.pricer.Priced.TheVariants.{Routes, Met}
use Rattle.vrp_columns_and_cuts.specs.declared.pricing.priced_routes.PricedRoutes.{PricedRoutes}

-- what holds of the routes, if there was no limit
abbrev pub IfRoutes : Priced → (PricedRoutes → Type 0) → Type 0
IfRoutes (Routes routes) P = P routes
IfRoutes (Met limit) P = Unit {0}
