-- What is known of an instance that is made from a request without a fault.
use Rattle.std.proofs.Common.{◌≡◌, ℕ, zero, suc, ◌*◌, ◌≤◌, ◌<◌, ap, ◌∙◌, true, false, not, None, List, ◌∷◌, filter, length, slice_index, map, arith, inl, inr}
use Rattle.std.proofs.lemmas.List.{get_or-map, get_or_past, length-map}
use Rattle.std.proofs.lemmas.Bool.{cases_lt}
use Rattle.std.specs.List.{range_with_len}
use Rattle.vrp_model.specs.Grid.{Grid}
use Rattle.vrp_model.specs.Problem.{IsProblem, Problem}
use Rattle.vrp_model.specs.Request.{is_listed, node_demand, problem_of, request_at, weights_among, NoDepotHasDemand, NoneIsTooHeavy}
use Rattle.vrp_model.specs.Inner.Places.{ArePlaces}

-- a listed depot has no demand
pub node_demand_depot : (depots demands : List ℕ) (node : ℕ) → NoDepotHasDemand depots demands → is_listed depots node ≡ true → node_demand demands node ≡ 0
node_demand_depot depots demands node none listed =
    let no_more : ¬ (0 < node_demand demands node) = λ more. none node (record { listed = listed; demand = more }) in
    omega arith

-- a customer's demand fits
pub node_demand_customer : (depots demands : List ℕ) (capacity node : ℕ) → NoneIsTooHeavy depots demands capacity → 1 ≤ node → node ≤ length demands → is_listed depots node ≡ false → node_demand demands node ≤ capacity
node_demand_customer depots demands capacity node none from_one within unlisted =
    let no_more : ¬ (capacity < node_demand demands node) = λ more. none node (record { from_one = from_one; within = within; unlisted = unlisted; heavy = more }) in
    omega arith

-- the demand of each place fits
place_fits : (depots demands places : List ℕ) (depot capacity nodes : ℕ) → ArePlaces depots depot nodes places → nodes ≡ length demands → NoDepotHasDemand depots demands → is_listed depots depot ≡ true → NoneIsTooHeavy depots demands capacity → (place : ℕ) → place < length places → node_demand demands (slice_index places place) ≤ capacity
place_fits depots demands places depot capacity nodes are count empty listed fit zero inside =
    rw are.depot_first (omega (arith, node_demand_depot depots demands depot empty listed))
place_fits depots demands places depot capacity nodes are count empty listed fit (suc k) inside =
    node_demand_customer depots demands capacity _ fit (are.from_one (suc k) inside) (omega (arith, are.within (suc k) (omega arith))) (are.unlisted (suc k) (omega arith) inside)

demand_fits : (demands places : List ℕ) (capacity : ℕ) → ((place : ℕ) → place < length places → node_demand demands (slice_index places place) ≤ capacity) → (place : ℕ) → slice_index (map (node_demand demands) places) place ≤ capacity
demand_fits demands places capacity fits place = elim (cases_lt place (length places)) [
  | inl inside ↦ rw (get_or-map (node_demand demands) places place 0 0 inside) (fits place inside)
  | inr past ↦ let none = get_or_past (map (node_demand demands) places) place 0 (rw length-map past) in omega arith
]

pub IsProblem-made : (depots demands places weights : List ℕ) (depot capacity nodes : ℕ) → ArePlaces depots depot nodes places → nodes ≡ length demands → nodes ≤ 1200 → depot ≤ nodes → NoDepotHasDemand depots demands → is_listed depots depot ≡ true → NoneIsTooHeavy depots demands capacity → length weights ≡ length places * length places → ((k : ℕ) → slice_index weights k ≤ 1000000000) → capacity ≤ 1000000000 → IsProblem (record { nodes = places; demands = map (node_demand demands) places; weights = weights; capacity = capacity; trucks = None })
IsProblem-made depots demands places weights depot capacity nodes are count few within empty listed fit square small light =
    record {
      some_places = are.some;
      few_places = omega (arith, are.fewer within);
      one_demand_each = length-map _ _;
      weight_square = square;
      small_weights = small;
      empty_depot = rw (get_or-map (node_demand demands) places 0 0 0 are.some, are.depot_first) (node_demand_depot depots demands depot empty listed);
      fitting_demands = demand_fits demands places capacity (place_fits depots demands places depot capacity nodes are count empty listed fit);
      small_capacity = light;
      some_trucks = λ trucks is. absurd (cc);
      few_trucks = λ trucks is. absurd (cc);
    }

-- the nodes of the places
pub places_few : (depots places : List ℕ) (depot nodes most : ℕ) → ArePlaces depots depot nodes places → nodes ≡ most → depot ≤ most → nodes ≤ 1200 → length places ≤ 1200
places_few depots places depot nodes most are count within few = omega (arith, are.fewer (rw count within))

pub places_within : (depots places : List ℕ) (depot nodes most : ℕ) → ArePlaces depots depot nodes places → nodes ≡ most → depot ≤ most → (k : ℕ) → k < length places → slice_index places k ≤ most
places_within depots places depot nodes most are count within zero inside = rw are.depot_first within
places_within depots places depot nodes most are count within (suc k) inside = omega (arith, are.within (suc k) (omega arith))

-- the problem of the request
pub problem_made : (grid : Grid) (demands : List ℕ) (capacity : ℕ) (depots : List ℕ) (depot nodes : ℕ) (places place_demands weights : List ℕ) → ArePlaces depots depot nodes places → nodes ≡ grid.nodes → place_demands ≡ map (node_demand demands) places → weights ≡ weights_among grid places → ◌≡◌ {A = Problem} (record { nodes = places; demands = place_demands; weights = weights; capacity = capacity; trucks = None }) (problem_of (request_at grid demands capacity depots depot))
problem_made grid demands capacity depots depot nodes places place_demands weights are count asked between =
    let made : List ℕ → Problem = λ all. record { nodes = all; demands = map (node_demand demands) all; weights = weights_among grid all; capacity = capacity; trucks = None } in
    rw (asked, between) (ap made (are.value ∙ ap (λ n. depot ∷ filter (λ node. not (is_listed depots node)) (range_with_len 1 n)) count))
