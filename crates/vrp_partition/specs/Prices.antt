-- Prices of customers and cuts, the reduced costs of routes and the lower bound by them.
use Rattle.std.specs.Prelude.{◌≡◌, ◌≤◌, ◌<◌, ◌⊎◌, ◌+◌, ◌*◌, ◌/◌, ◌%◌, ℕ, ℤ, pos, ◌+ℤ◌, ◌-ℤ◌, ◌*ℤ◌, Bool, nat_le, if◌then◌else◌, List, [], ◌∷◌, bit_and, count_ones, length, unsigned_abs, ◌^◌, int_le, ◌≤ℤ◌}
use Rattle.std.specs.List.{All, sum_by}
use Rattle.vrp_model.specs.declared.customers.customer_set.TheConstants.{PLACES}
use Rattle.vrp_partition.specs.Choice.{IsChoice, comes_to, routes_to, set_of}
use Rattle.vrp_partition.specs.declared.prices.Cut.{Cut}
use Rattle.vrp_partition.specs.declared.prices.PriceOffer.{PriceOffer}
use Rattle.vrp_partition.specs.declared.route.Route.{Route}

pub record Prices : Type 0 where
  -- the price of each customer, the first of whom is customer 0
  pub duals : List ℤ
  -- sets of three customers: a route pays the price if it has two of them or all
  pub subset_rows : List Cut
  -- sets that some routes have to come to: each route that does is paid the price
  pub capacity_cuts : List Cut
  -- what each route pays, since there are no more than so many trucks
  pub truck_price : ℕ

-- few cuts, and prices of moderate size, so that sums of them fit
pub record AreModerate (prices : Prices) : Type 0 where
  pub duals : length prices.duals ≡ PLACES
  pub dual : All (λ price. unsigned_abs price ≤ 2 ^ 52) prices.duals
  pub subset_rows : length prices.subset_rows ≤ 512
  pub subset_row : All (λ (cut : Cut). cut.price ≤ 2 ^ 50) prices.subset_rows
  pub capacity_cuts : length prices.capacity_cuts ≤ 512
  pub capacity_cut : All (λ (cut : Cut). cut.price ≤ 2 ^ 50) prices.capacity_cuts
  pub truck : prices.truck_price ≤ 2 ^ 50

-- the prices that are offered
abbrev pub prices_of : PriceOffer → Prices
prices_of offer = record { duals = offer.duals.items; subset_rows = offer.subset_rows.items; capacity_cuts = offer.capacity_cuts.items; truck_price = offer.truck_price }

-- the sum over a list of numbers with a sign
abbrev pub total : {X : Type 0} → (X → ℤ) → List X → ℤ
total f [] = pos 0
total f (x ∷ xs) = f x +ℤ total f xs

-- the sum of the prices of a set's customers, lowest bit first
abbrev pub dual_sum : List ℤ → ℕ → ℤ
dual_sum [] set = pos 0
dual_sum (price ∷ prices) set = pos (set % 2) *ℤ price +ℤ dual_sum prices (set / 2)

-- whether a set has two of three customers, or all
abbrev pub has_two : ℕ → ℕ → Bool
has_two triple set = nat_le 2 (count_ones (bit_and set triple))

abbrev pub charge : ℕ → Cut → ℕ
charge set cut = if has_two cut.set set then cut.price else 0

abbrev pub reward : ℕ → Cut → ℕ
reward set cut = if comes_to cut.set set then cut.price else 0

-- what subset-row cuts cost a set
abbrev pub charges : List Cut → ℕ → ℕ
charges cuts set = sum_by (charge set) cuts

-- what capacity cuts pay to a set
abbrev pub rewards : List Cut → ℕ → ℕ
rewards cuts set = sum_by (reward set) cuts

-- the reduced cost of a route: its cost, its charges and the price of a truck, less its customers' prices and its rewards
abbrev pub reduced_cost_of : Prices → ℕ → Route → ℤ
reduced_cost_of prices scale route =
    pos (scale * route.cost + charges prices.subset_rows route.set + prices.truck_price)
    -ℤ dual_sum prices.duals route.set -ℤ pos (rewards prices.capacity_cuts route.set)

-- what a choice costs at least: the customers' prices and the capacity cuts' as often as they say, less the subset-row cuts' and the
-- trucks'
abbrev pub lower_bound_of : Prices → ℕ → ℕ → ℤ
lower_bound_of prices customers trucks =
    dual_sum prices.duals customers +ℤ pos (sum_by (λ cut. cut.count * cut.price) prices.capacity_cuts)
    -ℤ pos (sum_by (λ cut. cut.price) prices.subset_rows + trucks * prices.truck_price)

-- every choice with at least so many routes has as many that come to the set as the cut asks for
abbrev pub IsVisited : List Route → ℕ → ℕ → Cut → Type 0
IsVisited pool customers fewest cut = (trucks : ℕ) (routes : List Route) → IsChoice set_of pool customers trucks routes
    → fewest ≤ routes_to customers routes → cut.count ≤ routes_to cut.set routes

-- each subset-row cut has three customers at most, and each capacity cut asks for what every choice with at least so many routes has
pub record AreValid (prices : Prices) (pool : List Route) (customers fewest : ℕ) : Type 0 where
  pub three : All (λ cut. count_ones cut.set ≤ 3) prices.subset_rows
  pub visited : All (IsVisited pool customers fewest) prices.capacity_cuts

-- what the customers of a set demand, the first of whom is customer 0
abbrev pub load_of : List ℕ → ℕ → ℕ
load_of [] set = 0
load_of (demand ∷ demands) set = set % 2 * demand + load_of demands (set / 2)

-- what each route carries fits one truck
abbrev pub AllFit : List ℕ → ℕ → List Route → Type 0
AllFit demands capacity pool = All (λ r. load_of demands r.set ≤ capacity) pool

-- some of the customers, and one route less than the cut asks for couldn't carry what they demand
pub record IsNeeded (demands : List ℕ) (capacity customers : ℕ) (cut : Cut) : Type 0 where
  pub within : bit_and cut.set customers ≡ cut.set
  pub carry : cut.count * capacity < load_of demands cut.set + capacity

-- all the customers, and no more routes than a choice in question has at least
pub record IsGranted (customers fewest : ℕ) (cut : Cut) : Type 0 where
  pub all : cut.set ≡ customers
  pub few : cut.count ≤ fewest

-- the cut asks for no more routes than a choice has that it is about
abbrev pub MayAsk : List ℕ → ℕ → ℕ → ℕ → Cut → Type 0
MayAsk demands capacity customers fewest cut = IsNeeded demands capacity customers cut ⊎ IsGranted customers fewest cut

-- whether a route's reduced cost is not above the gap
abbrev pub is_within_gap : Prices → ℕ → ℤ → Route → Bool
is_within_gap prices scale gap route = int_le (reduced_cost_of prices scale route) gap

-- the gap: how far a limit is above the lower bound
abbrev pub gap_of : Prices → ℕ → ℕ → ℕ → ℕ → ℤ
gap_of prices scale customers trucks limit = pos (scale * limit) -ℤ lower_bound_of prices customers trucks

-- no reduced cost is negative
abbrev pub NoneNegative : Prices → ℕ → List Route → Type 0
NoneNegative prices scale pool = All (λ r. pos 0 ≤ℤ reduced_cost_of prices scale r) pool

-- at most three customers, and a price of moderate size
pub record IsSubsetRow (cut : Cut) : Type 0 where
  pub moderate : cut.price ≤ 2 ^ 50
  pub three : count_ones cut.set ≤ 3

-- a set to which as many routes come as the cut asks for, and a price of moderate size
pub record IsCapacityCut (demands : List ℕ) (capacity customers fewest : ℕ) (cut : Cut) : Type 0 where
  pub moderate : cut.price ≤ 2 ^ 50
  pub asks : MayAsk demands capacity customers fewest cut

-- prices that are admitted: few and of moderate size, each subset-row cut with three customers at most, and each capacity cut with a
-- set to which as many routes come as the cut asks for
pub record IsAdmissible (demands : List ℕ) (capacity customers fewest : ℕ) (prices : Prices) : Type 0 where
  pub moderate : AreModerate prices
  pub three : All (λ (cut : Cut). count_ones cut.set ≤ 3) prices.subset_rows
  pub asks : All (MayAsk demands capacity customers fewest) prices.capacity_cuts
