-- What is known while the pool is passed through in the order of its routes' stops; parts of the pool that questions are about.
use Rattle.std.specs.Prelude.{◌≡◌, ◌⊎◌, ℕ, ◌+◌, ◌<◌, ◌≤◌, ◌↔◌, Bool, IsTrue, List, [], ◌∷◌, ◌++◌, bit_and, bit_xor, drop, length, slice_index_or}
use Rattle.std.specs.Int.{bit_at}
use Rattle.std.specs.List.{All, Contains}
use Rattle.vrp_canonical.specs.Reaching.{AreUnserved, Continues, IsRoute, Reaches, routes_at}
use Rattle.vrp_canonical.specs.declared.residual.Residual.{Residual}
use Rattle.vrp_model.specs.Problem.{Problem}
use Rattle.vrp_model.specs.Route.{PricedPlan, plan_cost}
use Rattle.vrp_partition.specs.declared.route.Route.{Route}

-- what is known before a place of the pool: the canonical plan begins with the routes that are chosen, each other one stands from
-- this place on, and the residual problem is what the chosen ones leave
pub record IsBegun (p : Problem) (stops : List (List ℕ)) (plan : PricedPlan) (whole : Residual) (index : ℕ) (chosen : List ℕ) (rest : Residual) : Type 0 where
  pub routes : All (IsRoute p) (routes_at stops chosen)
  pub others : List (List ℕ)
  pub is : plan.routes ≡ routes_at stops chosen ++ others
  pub among : All (Contains (drop index stops)) others
  pub unserved : AreUnserved p (routes_at stops chosen) rest.unserved
  pub trucks : length chosen + rest.trucks ≡ whole.trucks
  pub cost : plan_cost p (routes_at stops chosen) + rest.most ≡ whole.most

-- the residual problem once a route is driven, which serves none but unserved customers
pub record IsAfter (rest : Residual) (route : Route) (next : Residual) : Type 0 where
  pub within : bit_and route.set rest.unserved ≡ route.set
  pub unserved : next.unserved ≡ bit_xor rest.unserved route.set
  pub trucks : next.trucks + 1 ≡ rest.trucks
  pub most : next.most + route.cost ≡ rest.most

abbrev pub route_in : List Route → ℕ → Route
route_in pool k = slice_index_or pool k (record { set = 0; cost = 0 })

-- the route there has no customer but these
abbrev pub IsInside : List Route → ℕ → ℕ → Type 0
IsInside pool unserved k = bit_and (route_in pool k).set unserved ≡ (route_in pool k).set

-- a route stands between two places
pub record StandsWithin (pool : List Route) (low high : ℕ) (route : Route) : Type 0 where
  pub at : ℕ
  pub from : low ≤ at
  pub below : at < high
  pub within : at < length pool
  pub is : route_in pool at ≡ route

-- of the first routes of a pool those from a place on that have no customer but unserved ones, and stand below another place or lack
-- this customer
pub record IsPart (pool : List Route) (unserved customer low high count : ℕ) (part : List Route) : Type 0 where
  pub sound : All (λ route. Contains pool route × (StandsWithin pool low high route ⊎ (bit_at route.set customer ≡ 0))) part
  pub every : (k : ℕ) → k < count → k < length pool → low ≤ k → IsInside pool unserved k
      → (k < high) ⊎ (bit_at (route_in pool k).set customer ≡ 0) → Contains part (route_in pool k)

-- all routes between two places, of those that have no customer but unserved ones, have this one
abbrev pub AllHave : List Route → ℕ → ℕ → ℕ → ℕ → Type 0
AllHave pool unserved customer low high = (k : ℕ) → low ≤ k → k < high → k < length pool
    → IsInside pool unserved k → bit_at (route_in pool k).set customer ≡ 1

-- a plan that costs no more goes on with a route that stands below a place
pub record GoesBelow (p : Problem) (stops : List (List ℕ)) (most : ℕ) (routes : List (List ℕ)) (high : ℕ) : Type 0 where
  pub at : ℕ
  pub below : at < high
  pub within : at < length stops
  pub on : Continues p most (routes ++ slice_index_or stops at [] ∷ [])

-- the routes up to a place are passed, and if it is before the end its route is the next one
pub record IsNarrowed (p : Problem) (stops : List (List ℕ)) (plan : PricedPlan) (whole : Residual) (chosen : List ℕ) (rest : Residual) (end at : ℕ) : Type 0 where
  pub begun : IsBegun p stops plan whole at chosen rest
  pub next : at < end → Continues p whole.most (routes_at stops chosen ++ slice_index_or stops at [] ∷ [])

-- the answer to the question about such a part
abbrev pub IsAnswer : List Route → Residual → ℕ → ℕ → ℕ → Bool → Type 0
IsAnswer pool rest customer low high reply =
    (part : List Route) × IsPart pool rest.unserved customer low high (length pool) part
    × (IsTrue reply ↔ Reaches part rest.unserved rest.trucks rest.most)
