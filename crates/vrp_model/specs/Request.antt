-- The parts of an instance: demands by node number, listed depots, and the node chosen as the depot. (TSPLIB 95, section 1.2,
-- DEMAND_SECTION and DEPOT_SECTION. This project adds the rule that one of several depots is chosen and the others are
-- neither depot nor customers.)
use Rattle.std.specs.Prelude.{◌≡◌, ℕ, Option, None, unwrap_or, ◌-◌, ◌≤◌, ◌<◌, Bool, true, false, not, ◌==◌, List, ◌∷◌, EachIndex, length, map, filter, slice_index}
use Rattle.std.specs.List.{range_with_len, flat_map, list_any}
use Rattle.vrp_model.specs.Grid.{Grid, entry_at}
use Rattle.vrp_model.specs.Problem.{Problem}

pub record Request : Type 0 where
  pub grid : Grid
  -- the demands of node 1, node 2 and so on
  pub demands : List ℕ
  pub capacity : ℕ
  -- the listed depots
  pub depots : List ℕ
  -- the listed depot to use
  pub chosen : ℕ

-- the request with this depot
abbrev pub request_at : Grid → List ℕ → ℕ → List ℕ → ℕ → Request
request_at grid demands capacity depots depot =
    record { grid = grid; demands = demands; capacity = capacity; depots = depots; chosen = depot }

-- the depot is the chosen one, or the first listed one if none is chosen
abbrev pub request_of : Grid → List ℕ → ℕ → List ℕ → Option ℕ → Request
request_of grid demands capacity depots chosen =
    request_at grid demands capacity depots (unwrap_or chosen (slice_index depots 0))

-- no node's number is above this one
abbrev pub NoneAbove : ℕ → List ℕ → Type 0
NoneAbove most nodes = EachIndex nodes (λ k. slice_index nodes k ≤ most)

abbrev pub is_listed : List ℕ → ℕ → Bool
is_listed depots node = list_any (λ depot. depot == node) depots

abbrev pub node_demand : List ℕ → ℕ → ℕ
node_demand demands node = slice_index demands (node - 1)

-- the depot, and then the nodes that are not listed as depots, by rising number
abbrev pub places_of : Request → List ℕ
places_of request = request.chosen ∷ filter (λ node. not (is_listed request.depots node)) (range_with_len 1 request.grid.nodes)

-- the weights between these nodes: from each, to each
abbrev pub weights_among : Grid → List ℕ → List ℕ
weights_among grid nodes = flat_map (λ from. map (entry_at grid from) nodes) nodes

-- the problem that a request means
abbrev pub problem_of : Request → Problem
problem_of request = record {
  nodes = places_of request;
  demands = map (node_demand request.demands) (places_of request);
  weights = weights_among request.grid (places_of request);
  capacity = request.capacity;
  trucks = None;
}

-- a listed depot has a demand
pub record IsDepotWithDemand (depots demands : List ℕ) (node : ℕ) : Type 0 where
  pub listed : is_listed depots node ≡ true
  pub demand : 0 < node_demand demands node

-- a customer demands more than the capacity
pub record IsTooHeavy (depots demands : List ℕ) (capacity node : ℕ) : Type 0 where
  pub from_one : 1 ≤ node
  pub within : node ≤ length demands
  pub unlisted : is_listed depots node ≡ false
  pub heavy : capacity < node_demand demands node

abbrev pub NoDepotHasDemand : List ℕ → List ℕ → Type 0
NoDepotHasDemand depots demands = (node : ℕ) → ¬ IsDepotWithDemand depots demands node

abbrev pub NoneIsTooHeavy : List ℕ → List ℕ → ℕ → Type 0
NoneIsTooHeavy depots demands capacity = (node : ℕ) → ¬ IsTooHeavy depots demands capacity node

-- no lower node has the fault
pub record IsLowestDepotWithDemand (depots demands : List ℕ) (node : ℕ) : Type 0 where
  pub has : IsDepotWithDemand depots demands node
  pub lowest : (other : ℕ) → IsDepotWithDemand depots demands other → node ≤ other

pub record IsLowestTooHeavy (depots demands : List ℕ) (capacity node : ℕ) : Type 0 where
  pub has : IsTooHeavy depots demands capacity node
  pub lowest : (other : ℕ) → IsTooHeavy depots demands capacity other → node ≤ other

-- the request means a problem
pub record IsAcceptable (request : Request) : Type 0 where
  pub depots_empty : NoDepotHasDemand request.depots request.demands
  pub chosen_listed : is_listed request.depots request.chosen ≡ true
  pub customers_fit : NoneIsTooHeavy request.depots request.demands request.capacity
