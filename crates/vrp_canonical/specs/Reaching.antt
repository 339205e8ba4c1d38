-- Routes of a pool by their stops, and as a choice sees them; what is asked of the pool; and what a plan may begin with.
use Rattle.std.specs.Prelude.{◌≡◌, ◌≢◌, ℕ, ◌+◌, ◌≤◌, List, [], ◌++◌, map, slice_index_or}
use Rattle.std.specs.Int.{bit_at}
use Rattle.std.specs.List.{All, AllPairs, Contains}
use Rattle.vrp_model.specs.Order.{IsEarlier, IsCanonical}
use Rattle.vrp_model.specs.Problem.{Problem, customers}
use Rattle.vrp_model.specs.Route.{IsLawful, PricedPlan, plan_cost, route_cost}
use Rattle.vrp_model.specs.Fleet.{IsFleet}
use Rattle.vrp_partition.specs.Choice.{IsChoice}
use Rattle.vrp_canonical.specs.declared.residual.Residual.{Residual}
use Rattle.vrp_partition.specs.Choice.{cost_of, set_of, visits}
use Rattle.vrp_partition.specs.declared.route.Route.{Route}
use Rattle.vrp_routes.specs.Label.{IsBeginning}
use Rattle.vrp_model.specs.CustomerSet.{set_of as stops_set}
use Rattle.vrp_routes.specs.Useful.{IsUseful}

-- customers, none of them twice, whom one truck can carry
pub record IsRoute (p : Problem) (stops : List ℕ) : Type 0 where
  pub begins : IsBeginning p stops
  pub some : stops ≢ []

-- what a choice sees of a route
abbrev pub seen : Problem → List ℕ → Route
seen p stops = record { set = stops_set stops; cost = route_cost p stops }

-- these are the stops of the routes of a pool, and each route of a canonical plan that costs no more than the limit is among them
pub record IsPoolOf (p : Problem) (limit : ℕ) (stops : List (List ℕ)) (pool : List Route) : Type 0 where
  pub is : pool ≡ map (seen p) stops
  pub each : All (IsRoute p) stops
  pub every : (xs : List ℕ) → IsUseful p limit xs → Contains stops xs

-- some routes of the pool serve the unserved customers with so many trucks at most, and cost no more than this
pub record Reaches (pool : List Route) (unserved trucks most : ℕ) : Type 0 where
  pub parts : List Route
  pub choice : IsChoice set_of pool unserved trucks parts
  pub cheap : cost_of parts ≤ most

-- a feasible plan that costs no more than this begins with these routes
pub record Continues (p : Problem) (most : ℕ) (prefix : List (List ℕ)) : Type 0 where
  pub others : List (List ℕ)
  pub lawful : IsLawful p (prefix ++ others)
  pub cheap : plan_cost p (prefix ++ others) ≤ most

-- each customer is in one of these routes or unserved
abbrev pub AreUnserved : Problem → List (List ℕ) → ℕ → Type 0
AreUnserved p routes unserved = (k : ℕ) → visits stops_set routes k + bit_at unserved k ≡ bit_at (stops_set (customers p)) k

-- a pool in the order of its routes' stops, symbol by symbol, and a residual problem before any route is chosen: all customers are
-- unserved, the whole fleet is left, and what the routes may cost is what the canonical plan costs
pub record IsTask (p : Problem) (limit : ℕ) (stops : List (List ℕ)) (pool : List Route) (whole : Residual) : Type 0 where
  pub pool_of : IsPoolOf p limit stops pool
  pub rising : AllPairs IsEarlier stops
  pub customers_are : whole.unserved ≡ stops_set (customers p)
  pub fleet : IsFleet p whole.trucks
  pub plan : PricedPlan
  pub canonical : IsCanonical p plan
  pub cost_is : plan.cost ≡ whole.most
  pub within : whole.most ≤ limit

-- the stops of the routes at these places of the pool
abbrev pub routes_at : List (List ℕ) → List ℕ → List (List ℕ)
routes_at stops places = map (λ at. slice_index_or stops at []) places

abbrev pub plan_at : List (List ℕ) → List ℕ → ℕ → PricedPlan
plan_at stops places cost = record { routes = routes_at stops places; cost = cost }
