-- A problem with prices on its customers and prices on cuts, and with its demands in units. The prices are multipliers on the two
-- arcs of each customer (Christofides, Mingozzi and Toth 1981).
use Rattle.std.specs.Prelude.{◌≡◌, ◌≢◌, ℕ, zero, suc, ◌+◌, ◌*◌, ◌≤◌, ◌<◌, ℤ, pos, negsuc, List, slice_index_or}
use Rattle.std.specs.List.{All, sum_by}
use Rattle.vrp_model.specs.Problem.{Problem, customers, place_count, weight_of}
use Rattle.vrp_model.specs.declared.limits.TheConstants.{MAX_WEIGHT}
use Rattle.vrp_bound_prices.specs.CapacityCut.{CapacityCut, IsCut, cut_prices_of}
use Rattle.vrp_bound_prices.specs.Relaxation.{RelaxationOf}
use Rattle.vrp_bound_prices.specs.Units.{IsRounded}
use Rattle.vrp_bound_prices.specs.declared.limits.TheConstants.{MAX_SCALE}

-- Each arc between two places costs `scale` times as much, plus the prices of its two ends, minus their rebates and the
-- prices of the cuts that it crosses. The depot has no price and no rebate.
pub record HasPrices (p q : Problem) (scale : ℕ) (price rebate : ℕ → ℕ) (cuts : List CapacityCut) : Type 0 where
  pub some : 1 ≤ scale
  pub free_depot : price 0 ≡ 0
  pub plain_depot : rebate 0 ≡ 0
  pub each : All (IsCut p) cuts
  pub weights : (from to : ℕ) → from < place_count p → to < place_count p → from ≢ to
      → weight_of q from to + cut_prices_of cuts from to + rebate from + rebate to ≡ scale * weight_of p from to + price from + price to

-- the problem with prices, and with demands in units
pub record IsPriced (p q : Problem) (unit scale : ℕ) (price rebate : ℕ → ℕ) (cuts : List CapacityCut) : Type 0 where
  pub rounded : IsRounded p q unit
  pub priced : HasPrices p q scale price rebate cuts

-- the amount that prices add to each plan: each customer is entered and left once
abbrev pub charges_of : Problem → (ℕ → ℕ) → ℕ
charges_of p price = 2 * sum_by price (customers p)

-- the least amount that rebates and cut prices take off a plan: each truck that serves customers of a cut crosses its border
-- twice
abbrev pub rewards_of : Problem → (ℕ → ℕ) → List CapacityCut → ℕ
rewards_of p rebate cuts = 2 * sum_by rebate (customers p) + 2 * sum_by (λ cut. cut.cut_price * cut.trucks) cuts

-- ---- signed prices: a negative price is a rebate

abbrev pub above_nothing : ℤ → ℕ
above_nothing (pos n) = n
above_nothing (negsuc n) = 0

abbrev pub below_nothing : ℤ → ℕ
below_nothing (pos n) = 0
below_nothing (negsuc n) = suc n

-- the amount that a customer's price adds to each of its arcs, from a list with a price for each place; the depot's entry is
-- ignored
abbrev pub price_in : List ℤ → ℕ → ℕ
price_in prices zero = 0
price_in prices (suc k) = above_nothing (slice_index_or prices (suc k) (pos 0))

-- the amount that a customer's rebate takes off each of its arcs
abbrev pub rebate_in : List ℤ → ℕ → ℕ
rebate_in prices zero = 0
rebate_in prices (suc k) = below_nothing (slice_index_or prices (suc k) (pos 0))

-- the cost of an arc before rebates and cut prices are taken off
abbrev pub costly_arc : Problem → ℕ → List ℤ → ℕ → ℕ → ℕ
costly_arc p scale prices from to = scale * weight_of p from to + price_in prices from + price_in prices to

-- the rebates and cut prices taken off an arc
abbrev pub taken_off : List ℤ → List CapacityCut → ℕ → ℕ → ℕ
taken_off prices cuts from to = rebate_in prices from + rebate_in prices to + cut_prices_of cuts from to

-- with these prices and cut prices each arc costs between 0 and the greatest weight
pub record AreLawfulPrices (p : Problem) (scale : ℕ) (prices : List ℤ) (cuts : List CapacityCut) : Type 0 where
  pub no_less : (from to : ℕ) → from < place_count p → to < place_count p → from ≢ to
      → taken_off prices cuts from to ≤ costly_arc p scale prices from to
  pub no_more : (from to : ℕ) → from < place_count p → to < place_count p → from ≢ to
      → costly_arc p scale prices from to ≤ MAX_WEIGHT + taken_off prices cuts from to

-- no small enough scale makes the prices lawful
abbrev pub NoneAreLawful : Problem → List ℤ → List CapacityCut → Type 0
NoneAreLawful p prices cuts = (scale : ℕ) → scale ≤ MAX_SCALE → AreLawfulPrices p scale prices cuts → ⊥

-- a relaxation by these prices, and by the prices of these cuts
pub record IsByPrices (p : Problem) (unit scale : ℕ) (prices : List ℤ) (cuts : List CapacityCut) (r : RelaxationOf) : Type 0 where
  pub same_problem : r.problem ≡ p
  pub same_scale : r.scale ≡ scale
  pub priced : IsPriced p r.relaxed unit scale (price_in prices) (rebate_in prices) cuts
  pub charges : r.charges ≡ charges_of p (price_in prices)
  pub rewards : r.rewards ≡ rewards_of p (rebate_in prices) cuts
