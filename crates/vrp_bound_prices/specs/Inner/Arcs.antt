-- Prices that may be valid, and the weights with prices and cut prices while they are written, row by row.
use Rattle.std.specs.Prelude.{◌≡◌, ◌≢◌, ℕ, ◌+◌, ◌*◌, ◌≤◌, ◌<◌, ℤ, List, length, slice_index}
use Rattle.vrp_model.specs.Problem.{Problem, place_count}
use Rattle.vrp_model.specs.declared.limits.TheConstants.{MAX_WEIGHT}
use Rattle.vrp_bound_prices.specs.CapacityCut.{CapacityCut}
use Rattle.vrp_bound_prices.specs.Priced.{costly_arc, price_in, rebate_in, taken_off}
use Rattle.vrp_bound_prices.specs.declared.limits.TheConstants.{MAX_PRICE, MAX_REBATE}

-- no price is above the greatest weight plus the cut prices, and no rebate is above the greatest cost of an arc before
-- rebates
abbrev pub AreModerate : List ℤ → Type 0
AreModerate prices = (place : ℕ) → place < length prices → (price_in prices place ≤ MAX_PRICE) × (rebate_in prices place ≤ MAX_REBATE)

-- the cost of an arc with prices and cut prices; from a place to itself any weight will do
abbrev pub IsPricedArc : Problem → ℕ → List ℤ → List CapacityCut → ℕ → ℕ → ℕ → Type 0
IsPricedArc p scale prices cuts from to weight = from ≢ to → weight + taken_off prices cuts from to ≡ costly_arc p scale prices from to

-- each weight so far is that from its row's place to its column's place
pub record ArePricedArcs (p : Problem) (scale : ℕ) (prices : List ℤ) (cuts : List CapacityCut) (weights : List ℕ) : Type 0 where
  pub each : (from to : ℕ) → to < place_count p → from * place_count p + to < length weights
      → IsPricedArc p scale prices cuts from to (slice_index weights (from * place_count p + to))
  pub small : (k : ℕ) → slice_index weights k ≤ MAX_WEIGHT
