-- The routes of a pool that are marked, in the order of their stops.
use Rattle.std.specs.Prelude.{◌≡◌, ℕ, ◌<◌, Bool, true, false, List, [], length, map, slice_index_or}
use Rattle.std.specs.List.{All, AllPairs, Contains}
use Rattle.vrp_canonical.specs.Passing.{route_in}
use Rattle.vrp_canonical.specs.Reaching.{IsPoolOf, routes_at}
use Rattle.vrp_canonical.specs.declared.ordered.ListedRoute.{ListedRoute}
use Rattle.vrp_model.specs.Order.{IsEarlier}
use Rattle.vrp_model.specs.Problem.{Problem}
use Rattle.vrp_model.specs.Word.{word_of}
use Rattle.vrp_partition.specs.declared.route.Route.{Route}
use Rattle.vrp_routes.specs.Pool.{RouteOf}

-- a route of a pool as a choice sees it
abbrev pub chosen_of : RouteOf → Route
chosen_of route = record { set = route.set; cost = route.cost }

abbrev pub stops_of : ListedRoute → List ℕ
stops_of route = route.stops.items

-- a route with its stops as a choice sees it
abbrev pub route_of : ListedRoute → Route
route_of route = record { set = route.set; cost = route.cost }

abbrev pub stops_in : RouteOf → List ℕ
stops_in route = route.stops

-- a route of a pool, by the stops of the pool's routes and by what a choice sees of them
pub record StandsIn (stops : List (List ℕ)) (pool : List Route) (route : ListedRoute) : Type 0 where
  pub at : ℕ
  pub within : at < length stops
  pub stops_are : stops_of route ≡ slice_index_or stops at []
  pub is : route_of route ≡ route_in pool at

-- routes of a pool, among them all that are marked of the first ones
pub record AreMarked (stops : List (List ℕ)) (pool : List Route) (marks : List Bool) (count : ℕ) (listed : List ListedRoute) : Type 0 where
  pub among : All (StandsIn stops pool) listed
  pub every : (at : ℕ) → at < count → at < length stops → slice_index_or marks at false ≡ true
      → Contains (map stops_of listed) (slice_index_or stops at [])

-- a pool in the order of its routes' stops
pub record AreOrdered (p : Problem) (limit : ℕ) (ordered : List ListedRoute) : Type 0 where
  pub pool_of : IsPoolOf p limit (map stops_of ordered) (map route_of ordered)
  pub rising : AllPairs IsEarlier (map stops_of ordered)

-- the word of chosen routes, by the stops of the pool's routes: the pool has each chosen route at a place, and these places' stops make
-- up the word
pub record IsWordOf (stops : List (List ℕ)) (pool choice : List Route) (word : List ℕ) : Type 0 where
  pub places : List ℕ
  pub within : All (λ at. at < length pool) places
  pub chosen : map (route_in pool) places ≡ choice
  pub is : word ≡ word_of (routes_at stops places)
