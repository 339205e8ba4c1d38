-- Some routes of a pool, among which are all that stand in a cheap choice.
use Rattle.std.specs.Prelude.{◌≡◌, ◌<◌, ℕ, List, length, map, slice_index_or}
use Rattle.std.specs.List.{Contains}
use Rattle.vrp_partition.specs.Pricing.{StandsInNone}
use Rattle.vrp_partition.specs.declared.narrowing.Kept.{Kept}
use Rattle.vrp_partition.specs.declared.route.Route.{Route}

abbrev pub route_at : List Route → ℕ → Route
route_at pool k = slice_index_or pool k (record { set = 0; cost = 0 })

-- places of the pool and the routes there; a route at another place stands in no choice with at least so many
-- routes that costs no more than the limit
pub record IsNarrowed (pool : List Route) (customers trucks fewest limit : ℕ) (kept : Kept) : Type 0 where
  pub inside : (at : ℕ) → at < length kept.places.items → slice_index_or kept.places.items at 0 < length pool
  pub are : kept.routes.items ≡ map (route_at pool) kept.places.items
  pub rest : (k : ℕ) → k < length pool → (Contains kept.places.items k → ⊥) → StandsInNone pool customers trucks fewest limit (route_at pool k)
