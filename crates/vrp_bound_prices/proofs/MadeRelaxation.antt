-- An instance with priced weights and demands in units has the prices, and is a relaxation.
use Rattle.std.proofs.Common.{◌≡◌, ℕ, ◌*◌, ◌≤◌, ℤ, List, length, refl, arith}
use Rattle.std.specs.Prelude.{slice_index}
use Rattle.std.specs.List.{All}
use Rattle.vrp_model.specs.Problem.{IsProblem, Problem, customers, demand_of, place_count}
use Rattle.vrp_bound_prices.specs.CapacityCut.{CapacityCut, IsCut}
use Rattle.vrp_bound_prices.specs.Inner.Kept.{IsSmallRelaxation}
use Rattle.vrp_bound_prices.specs.Inner.Arcs.{ArePricedArcs}
use Rattle.vrp_bound_prices.specs.Priced.{IsByPrices, IsPriced, charges_of, price_in, rebate_in, rewards_of}
use Rattle.vrp_bound_prices.specs.declared.limits.TheConstants.{MAX_CHARGES, MAX_REWARDS, MAX_SCALE}
use Rattle.vrp_bound_prices.specs.Units.{rounded_capacity, units_of}
use Rattle.vrp_bound_prices.proofs.PricedRows.{all_arcs}
use Rattle.vrp_bound_prices.proofs.PricesRelax.{priced_relaxation}

pub priced_when_made : (p : Problem) (unit scale : ℕ) (prices : List ℤ) (cuts : List CapacityCut) (weights demands : List ℕ) (capacity : ℕ) → 1 ≤ unit → 1 ≤ scale → length weights ≡ place_count p * place_count p → ArePricedArcs p scale prices cuts weights → All (IsCut p) cuts
    → slice_index demands 0 ≡ 0 → All (λ customer. slice_index demands customer ≡ units_of unit (demand_of p customer)) (customers p) → capacity ≡ rounded_capacity p unit
    → IsPriced p (record p { weights = weights; demands = demands; capacity = capacity }) unit scale (price_in prices) (rebate_in prices) cuts
priced_when_made p unit scale prices cuts weights demands capacity some_unit some_scale square arcs are_cuts empty units is_capacity = record {
  rounded = record { some = some_unit; same_places = refl; empty_depot = empty; demands = units; capacity = is_capacity; same_trucks = refl };
  priced = record {
    some = some_scale;
    free_depot = refl;
    plain_depot = refl;
    each = are_cuts;
    weights = λ from to here there differs. omega (arith, all_arcs p scale prices cuts weights from to square arcs here there differs);
  };
}

-- ---- the numbers beside it

pub by_prices : (p q : Problem) (unit scale charges rewards : ℕ) (prices : List ℤ) (cuts : List CapacityCut) → IsPriced p q unit scale (price_in prices) (rebate_in prices) cuts → charges ≡ charges_of p (price_in prices) → rewards ≡ rewards_of p (rebate_in prices) cuts
    → IsByPrices p unit scale prices cuts (record { problem = p; relaxed = q; scale = scale; charges = charges; rewards = rewards })
by_prices p q unit scale charges rewards prices cuts priced charged rewarded = record {
  same_problem = refl;
  same_scale = refl;
  priced = priced;
  charges = charged;
  rewards = rewarded;
}

pub kept_when_made : (p q : Problem) (unit scale charges rewards : ℕ) (prices : List ℤ) (cuts : List CapacityCut) → IsProblem p → IsPriced p q unit scale (price_in prices) (rebate_in prices) cuts → charges ≡ charges_of p (price_in prices) → rewards ≡ rewards_of p (rebate_in prices) cuts
    → 1 ≤ scale → scale ≤ MAX_SCALE → charges ≤ MAX_CHARGES → rewards ≤ MAX_REWARDS → IsSmallRelaxation (record { problem = p; relaxed = q; scale = scale; charges = charges; rewards = rewards })
kept_when_made p q unit scale charges rewards prices cuts problem priced charged rewarded some_scale small_scale small_charges small_rewards = record {
  bounds = rw (charged, rewarded) (priced_relaxation p q unit scale (price_in prices) (rebate_in prices) cuts problem priced);
  some_scale = some_scale;
  small_scale = small_scale;
  small_charges = small_charges;
  small_rewards = small_rewards;
}
