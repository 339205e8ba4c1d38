-- The same places and trucks with other weights, demands and capacity are a problem again.
use Rattle.std.proofs.Common.{◌≡◌, ℕ, ◌*◌, ◌≤◌, List, length, refl}
use Rattle.std.specs.Prelude.{slice_index}
use Rattle.vrp_model.specs.declared.limits.TheConstants.{MAX_CAPACITY, MAX_WEIGHT}
use Rattle.vrp_model.specs.Problem.{IsProblem, Problem, place_count}

pub problem_with_amounts : (p : Problem) (places weights demands : List ℕ) (capacity : ℕ) → places ≡ p.nodes → IsProblem p → length weights ≡ place_count p * place_count p → ((k : ℕ) → slice_index weights k ≤ MAX_WEIGHT)
    → length demands ≡ place_count p → slice_index demands 0 ≡ 0 → ((place : ℕ) → slice_index demands place ≤ capacity) → capacity ≤ MAX_CAPACITY
    → IsProblem (record { nodes = places; demands = demands; weights = weights; capacity = capacity; trucks = p.trucks })
problem_with_amounts p places weights demands capacity same problem square small_weights one_each empty fitting small_capacity = rw same record {
  some_places = problem.some_places;
  few_places = problem.few_places;
  one_demand_each = one_each;
  weight_square = square;
  small_weights = small_weights;
  empty_depot = empty;
  fitting_demands = fitting;
  small_capacity = small_capacity;
  some_trucks = problem.some_trucks;
  few_trucks = problem.few_trucks;
}

pub same_with_amounts : (p view : Problem) (places weights demands : List ℕ) (capacity : ℕ) → p ≡ view → places ≡ p.nodes
    → record { nodes = places; demands = demands; weights = weights; capacity = capacity; trucks = p.trucks } ≡ record view { weights = weights; demands = demands; capacity = capacity }
same_with_amounts p view places weights demands capacity is same = rw (same, is) refl
