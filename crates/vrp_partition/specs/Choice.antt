-- Choices among the routes of a pool. A set of customers is a number, with a bit for each.
use Rattle.std.specs.Prelude.{◌≡◌, ◌≤◌, ◌<◌, ℕ, List, Bool, not, if◌then◌else◌, ◌||◌, ◌==◌, bit_and, length}
use Rattle.std.specs.Int.{bit_at}
use Rattle.std.specs.List.{All, Contains, sum_by}
use Rattle.vrp_partition.specs.declared.route.Route.{Route}

abbrev pub set_of : Route → ℕ
set_of route = route.set

-- how many of these have a customer in their set
abbrev pub visits : {X : Type 0} → (X → ℕ) → List X → ℕ → ℕ
visits set parts customer = sum_by (λ x. bit_at (set x) customer) parts

-- members of the pool whose sets have each of the customers just once, and nobody else, no more than there are trucks: a solution of
-- the set partitioning
pub record IsChoice {X : Type 0} (set : X → ℕ) (pool : List X) (customers trucks : ℕ) (parts : List X) : Type 0 where
  pub known : All (Contains pool) parts
  pub once : (customer : ℕ) → visits set parts customer ≡ bit_at customers customer
  pub few : length parts ≤ trucks

-- what routes cost together
abbrev pub cost_of : List Route → ℕ
cost_of routes = sum_by (λ r. r.cost) routes

-- whether a set has a customer of the other
abbrev pub comes_to : ℕ → ℕ → Bool
comes_to visited set = not (bit_and set visited == 0)

-- how many routes have a customer of a set
abbrev pub routes_to : ℕ → List Route → ℕ
routes_to visited routes = sum_by (λ r. if comes_to visited r.set then 1 else 0) routes

-- every choice of the pool with at least so many routes costs more; a route without customers doesn't count
abbrev pub NoneWithin : List Route → ℕ → ℕ → ℕ → ℕ → Type 0
NoneWithin pool customers trucks fewest limit = (routes : List Route) → IsChoice set_of pool customers trucks routes
    → fewest ≤ routes_to customers routes → limit < cost_of routes

-- no choice of the pool with at least so many routes costs less
abbrev pub NoneBelow : List Route → ℕ → ℕ → ℕ → ℕ → Type 0
NoneBelow pool customers trucks fewest limit = (routes : List Route) → IsChoice set_of pool customers trucks routes
    → fewest ≤ routes_to customers routes → limit ≤ cost_of routes

-- whether a set has all customers of a group, or none of them
abbrev pub is_together : ℕ → Route → Bool
is_together group route = (bit_and route.set group == group) || (bit_and route.set group == 0)

-- whether a set lacks a customer of a group
abbrev pub is_apart : ℕ → Route → Bool
is_apart group route = not (bit_and route.set group == group)

-- No choice with at least so many routes costs less than what was found. That is the incumbent's cost, or below it the cost of the
-- routes, which are a choice, with any number of routes
pub record IsCheapest (pool : List Route) (customers trucks fewest incumbent found : ℕ) (routes : List Route) : Type 0 where
  pub most : found ≤ incumbent
  pub least : NoneBelow pool customers trucks fewest found
  pub attained : found < incumbent → IsChoice set_of pool customers trucks routes × (cost_of routes ≡ found)
