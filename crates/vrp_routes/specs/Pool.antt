-- A pool of routes: which routes it may have, and when it has all that matter.
use Rattle.std.specs.Prelude.{◌≡◌, ◌≢◌, ℕ, List, []}
use Rattle.std.specs.List.{All, Contains}
use Rattle.vrp_model.specs.Problem.{Problem}
use Rattle.vrp_model.specs.Route.{load_of, route_cost}
use Rattle.vrp_model.specs.CustomerSet.{set_of}
use Rattle.vrp_routes.specs.Label.{IsBeginning}
use Rattle.vrp_routes.specs.Range.{plans_within}
use Rattle.vrp_routes.specs.Useful.{IsUsefulIn}
use Rattle.vrp_routes.specs.declared.plan_range.PlanRange.{PlanRange}

-- a route as a pool has it
pub record RouteOf : Type 0 where
  pub stops : List ℕ
  pub set : ℕ
  pub load : ℕ
  pub cost : ℕ

-- customers, at least one, none of them twice, whom one truck can carry; and their set, their load and the route's cost are true
pub record IsListed (p : Problem) (route : RouteOf) : Type 0 where
  pub begins : IsBeginning p route.stops
  pub some : route.stops ≢ []
  pub set : route.set ≡ set_of route.stops
  pub load : route.load ≡ load_of p route.stops
  pub cost : route.cost ≡ route_cost p route.stops

-- each useful route is in the pool
abbrev pub IsComplete : Problem → PlanRange → List RouteOf → Type 0
IsComplete p range pool = (stops : List ℕ) → IsUsefulIn p range stops → (route : RouteOf) × Contains pool route × (route.stops ≡ stops)

-- a pool for a problem and a range of plans
pub record IsPoolIn (p : Problem) (range : PlanRange) (pool : List RouteOf) : Type 0 where
  pub routes : All (IsListed p) pool
  pub complete : IsComplete p range pool

-- a pool for all plans within a limit
abbrev pub IsPool : Problem → ℕ → List RouteOf → Type 0
IsPool p limit pool = IsPoolIn p (plans_within limit) pool

-- what stands for a route past the end
abbrev pub no_route : RouteOf
no_route = record { stops = []; set = 0; load = 0; cost = 0 }
