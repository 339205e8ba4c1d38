-- The capacitated vehicle routing problem of TSPLIB 95 (section 1, type CVRP): the depot is place 0, and the customers are places 1 to m.
use Rattle.std.specs.Option.{ForSome}
use Rattle.std.specs.Prelude.{◌≡◌, ℕ, ◌+◌, ◌*◌, ◌-◌, ◌≤◌, ◌<◌, Option, List, length, slice_index}
use Rattle.std.specs.List.{range_with_len}
use Rattle.vrp_model.specs.declared.limits.TheConstants.{MAX_CAPACITY, MAX_NODES, MAX_WEIGHT}

pub record Problem : Type 0 where
  -- the file's node number of each place
  pub nodes : List ℕ
  -- the demand of each place; the depot's is 0
  pub demands : List ℕ
  -- the weights from each place to each place, row by row
  pub weights : List ℕ
  -- the capacity of a truck
  pub capacity : ℕ
  -- the number of trucks; None: no limit
  pub trucks : Option ℕ

abbrev pub place_count : Problem → ℕ
place_count p = length p.nodes

abbrev pub customers : Problem → List ℕ
customers p = range_with_len 1 (place_count p - 1)

abbrev pub node_of : Problem → ℕ → ℕ
node_of p place = slice_index p.nodes place

abbrev pub demand_of : Problem → ℕ → ℕ
demand_of p place = slice_index p.demands place

abbrev pub weight_of : Problem → ℕ → ℕ → ℕ
weight_of p from to = slice_index p.weights (from * place_count p + to)

-- there are trucks for this many routes
abbrev pub HasTrucks : Problem → ℕ → Type 0
HasTrucks p routes = ForSome p.trucks (λ trucks. routes ≤ trucks)

-- there is a truck for each customer
abbrev pub HasTruckForEach : Problem → Type 0
HasTruckForEach p = HasTrucks p (length (customers p))

-- the problem with these weights, demands and capacity; places and trucks stay
abbrev pub with_amounts : Problem → List ℕ → List ℕ → ℕ → Problem
with_amounts p weights demands capacity = record p { weights = weights; demands = demands; capacity = capacity }

-- an arc and its reverse always cost the same
abbrev pub IsSymmetric : Problem → Type 0
IsSymmetric p = (from to : ℕ) → from < place_count p → to < place_count p → weight_of p from to ≡ weight_of p to from

-- an invariant of every problem made from a file
pub record IsProblem (p : Problem) : Type 0 where
  pub some_places : 1 ≤ place_count p
  pub few_places : place_count p ≤ MAX_NODES
  pub one_demand_each : length p.demands ≡ place_count p
  pub weight_square : length p.weights ≡ place_count p * place_count p
  pub small_weights : (k : ℕ) → slice_index p.weights k ≤ MAX_WEIGHT
  pub empty_depot : demand_of p 0 ≡ 0
  pub fitting_demands : (place : ℕ) → demand_of p place ≤ p.capacity
  pub small_capacity : p.capacity ≤ MAX_CAPACITY
  pub some_trucks : ForSome p.trucks (λ trucks. 1 ≤ trucks)
  pub few_trucks : ForSome p.trucks (λ trucks. trucks ≤ MAX_NODES)
