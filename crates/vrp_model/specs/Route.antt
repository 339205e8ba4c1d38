-- Routes and plans of the capacitated vehicle routing problem (TSPLIB 95, section 1, type CVRP).
use Rattle.std.specs.Prelude.{◌≡◌, ◌≢◌, ◌⊎◌, ℕ, ◌+◌, ◌≤◌, List, [], ◌∷◌, ◌++◌, length, map, reverse}
use Rattle.std.specs.List.{All, concat, sum_by}
use Rattle.std.specs.List.Sorted.{IsPermutation}
use Rattle.vrp_model.specs.Problem.{HasTrucks, Problem, customers, demand_of, weight_of}

abbrev pub load_of : Problem → List ℕ → ℕ
load_of p stops = sum_by (demand_of p) stops

-- the cost from a place through the stops, up to the last one
abbrev pub cost_along : Problem → ℕ → List ℕ → ℕ
cost_along p at [] = 0
cost_along p at (stop ∷ stops) = weight_of p at stop + cost_along p stop stops

-- the cost from the depot through the stops and back
abbrev pub route_cost : Problem → List ℕ → ℕ
route_cost p stops = cost_along p 0 (stops ++ 0 ∷ [])

abbrev pub plan_cost : Problem → List (List ℕ) → ℕ
plan_cost p routes = sum_by (route_cost p) routes

-- each customer is in exactly one route, once, and nothing else is in any
abbrev pub ServesEachOnce : Problem → List (List ℕ) → Type 0
ServesEachOnce p routes = IsPermutation (concat routes) (customers p)

abbrev pub OverloadsNoTruck : Problem → List (List ℕ) → Type 0
OverloadsNoTruck p routes = All (λ r. load_of p r ≤ p.capacity) routes

-- each customer is served once, no truck is overloaded, and there are trucks for all routes
pub record IsLawful (p : Problem) (routes : List (List ℕ)) : Type 0 where
  pub served : ServesEachOnce p routes
  pub stops : All (λ r. r ≢ []) routes
  pub fits : OverloadsNoTruck p routes
  pub few : HasTrucks p (length routes)

-- routes and their stated cost
pub record PricedPlan : Type 0 where
  pub routes : List (List ℕ)
  pub cost : ℕ

-- a feasible plan of the problem, with its true cost
pub record IsPlanOf (p : Problem) (plan : PricedPlan) : Type 0 where
  pub lawful : IsLawful p plan.routes
  pub priced : plan.cost ≡ plan_cost p plan.routes

-- one route for each customer, by rising place
abbrev pub SendsOneToEach : Problem → PricedPlan → Type 0
SendsOneToEach p plan = plan.routes ≡ map (λ customer. customer ∷ []) (customers p)

-- each route is the same or reversed
abbrev pub AreTurned : List (List ℕ) → List (List ℕ) → Type 0
AreTurned [] [] = Unit {0}
AreTurned [] (other ∷ others) = ⊥
AreTurned (route ∷ routes) [] = ⊥
AreTurned (route ∷ routes) (other ∷ others) = ((other ≡ route) ⊎ (other ≡ reverse route)) × AreTurned routes others
