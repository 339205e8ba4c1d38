-- A pool by prices that bound its choices, and which of its routes may stand in a cheap one.
use Rattle.std.specs.Prelude.{◌≡◌, ◌<◌, ◌≤◌, ◌≤ℤ◌, ℕ, List, Bool, false, length, map, pos, slice_index_or}
use Rattle.std.specs.List.{All, Contains}
use Rattle.vrp_partition.specs.Choice.{IsChoice, cost_of, routes_to, set_of}
use Rattle.vrp_partition.specs.Prices.{AreValid, reduced_cost_of}
use Rattle.vrp_partition.specs.declared.priced.PricedPool.{PricedPool}
use Rattle.vrp_partition.specs.declared.prices.TheConstants.{SCALE}
use Rattle.vrp_partition.specs.declared.route.Route.{Route}

-- the prices are valid, and no reduced cost is negative
pub record IsPriced (pool : List Route) (customers fewest : ℕ) (priced : PricedPool) : Type 0 where
  pub valid : AreValid priced.prices pool customers fewest
  pub costs : priced.costs.items ≡ map (reduced_cost_of priced.prices SCALE) pool
  pub none : All (λ cost. pos 0 ≤ℤ cost) priced.costs.items

-- no choice with at least so many routes that costs no more than the limit has the route
abbrev pub StandsInNone : List Route → ℕ → ℕ → ℕ → ℕ → Route → Type 0
StandsInNone pool customers trucks fewest limit route = (routes : List Route) → IsChoice set_of pool customers trucks routes
    → fewest ≤ routes_to customers routes → Contains routes route → limit < cost_of routes

-- each route that is not marked stands in none
pub record MarksWithin (pool : List Route) (customers trucks fewest limit : ℕ) (marks : List Bool) : Type 0 where
  pub long : length marks ≡ length pool
  pub rest : (at : ℕ) (route : Route) → at < length pool → slice_index_or marks at false ≡ false
      → StandsInNone pool customers trucks fewest limit (slice_index_or pool at route)
