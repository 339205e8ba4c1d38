-- How far the list of useful routes has come, level by level.
use Rattle.std.specs.Prelude.{◌≡◌, ℕ, ◌+◌, ◌^◌, ◌<◌, ◌≤◌, List, [], drop, length, slice_index_or}
use Rattle.std.specs.List.{All, Contains}
use Rattle.vrp_model.specs.Problem.{Problem}
use Rattle.vrp_routes.specs.ClosedLevel.{route_by}
use Rattle.vrp_routes.specs.Label.{SettingOf}
use Rattle.vrp_routes.specs.Level.{IsLevel}
use Rattle.vrp_routes.specs.Pool.{IsListed, RouteOf}
use Rattle.vrp_routes.specs.Useful.{IsUsefulIn}
use Rattle.vrp_routes.specs.declared.closed.ClosedRoute.{ClosedRoute}
use Rattle.vrp_routes.specs.declared.listing.Listed.{Listed}
use Rattle.vrp_routes.specs.declared.listing.Listed.TheVariants.{Met, Pool}
use Rattle.vrp_routes.specs.declared.listing.Listing.{Listing}
use Rattle.vrp_routes.specs.declared.plan_range.PlanRange.{PlanRange}

-- a fact of the pool, where there is one
abbrev pub IfPool : Listed → (List RouteOf → Type 0) → Type 0
IfPool (Pool pool) P = P pool
IfPool (Met limit) P = Unit {0}

-- the routes with fewer stops than this are listed
pub record AreListed (p : Problem) (range : PlanRange) (k : ℕ) (stops : List (List ℕ)) (routes : List ClosedRoute) : Type 0 where
  pub each : All (λ route. IsListed p (route_by stops route) × (route.label < length stops)) routes
  pub every : (xs : List ℕ) → length xs < k → IsUsefulIn p range xs → (route : ClosedRoute) × Contains routes route × (slice_index_or stops route.label [] ≡ xs)

-- the labels with this many stops are the last sequences, and the routes up to them are listed
pub record IsListing {X : Type 0} (s : SettingOf X) (k : ℕ) (listing : Listing X) : Type 0 where
  pub start : listing.start ≤ length listing.sequences
  pub few : length listing.sequences < 2 ^ 32
  pub level : IsLevel s k (drop listing.start listing.sequences) listing.labels.items
  pub routes : AreListed s.problem s.range (k + 1) listing.sequences listing.routes.items
