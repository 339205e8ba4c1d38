-- Dual prices of the linear program over routes (set partitioning; Balinski and Quandt 1964): prices of customers, of entries into sets of
-- customers (as in rounded capacity inequalities; Laporte and Nobert 1983), and of subset rows (Jepsen, Petersen, Spoorendonk and Pisinger
-- 2008) with limited memory (Pecin, Pessoa, Poggi and Uchoa 2017). The reduced costs of routes, and the lower bound that the prices give.
use Rattle.std.specs.Prelude.{◌≡◌, ◌⊎◌, ◌≤◌, ◌<◌, ◌≤ℤ◌, ℕ, ℤ, pos, ◌+ℤ◌, ◌-ℤ◌, ◌*ℤ◌, ◌+◌, ◌-◌, ◌*◌, ◌/◌, ◌%◌, ◌==◌, ◌||◌, IsSomeAnd, IsTrue, Option, List, [], ◌∷◌, ◌++◌, count_ones, length, min, slice_index_or, unsigned_abs}
use Rattle.std.specs.Int.{bit_at}
use Rattle.std.specs.List.{All, range_with_len, sum_by}
use Rattle.vrp_model.specs.declared.customers.customer_set.TheConstants.{PLACES}
use Rattle.vrp_model.specs.Problem.{Problem, customers, demand_of, place_count}
use Rattle.vrp_model.specs.Route.{route_cost}
use Rattle.vrp_duals.specs.declared.limits.TheConstants.{MAX_ENTRY_PRICE, MAX_ENTRY_ROWS, MAX_PRICE, MAX_ROW_PRICE, MAX_SCALE, MAX_SUBSET_ROWS}
use Rattle.vrp_duals.specs.declared.rows.EntryRow.{EntryRow}
use Rattle.vrp_duals.specs.declared.rows.SubsetRow.{SubsetRow}

pub record DualsOf : Type 0 where
  -- the number of price units in a unit of cost
  pub scale : ℕ
  -- the price of each place, the depot's 0 first
  pub prices : List ℤ
  pub entries : List EntryRow
  pub rows : List SubsetRow

abbrev pub duals_of : ℕ → List ℤ → List EntryRow → List SubsetRow → DualsOf
duals_of scale prices entries rows = record { scale = scale; prices = prices; entries = entries; rows = rows }

abbrev pub price_of : DualsOf → ℕ → ℤ
price_of d place = slice_index_or d.prices place (pos 0)

-- the sum over a list of numbers with a sign
abbrev pub int_sum_by : {X : Type 0} → (X → ℤ) → List X → ℤ
int_sum_by f [] = pos 0
int_sum_by f (x ∷ xs) = f x +ℤ int_sum_by f xs

-- ---- entries

-- 1 for an arc that enters the set from outside, and else 0
abbrev pub entry : ℕ → ℕ → ℕ → ℕ
entry set from to = bit_at set to - bit_at set from

-- how many arcs from a place through the stops, up to the last one, enter the set
abbrev pub entries_along : ℕ → ℕ → List ℕ → ℕ
entries_along set at [] = 0
entries_along set at (stop ∷ stops) = entry set at stop + entries_along set stop stops

-- how often a route from the depot and back enters the set
abbrev pub route_entries : ℕ → List ℕ → ℕ
route_entries set route = entries_along set 0 (route ++ 0 ∷ [])

abbrev pub plan_entries : ℕ → List (List ℕ) → ℕ
plan_entries set routes = sum_by (route_entries set) routes

-- the routes enter the set at least `count` times, and the price is not negative, or at most so often, and it is not positive
abbrev pub Obeys : List (List ℕ) → EntryRow → Type 0
Obeys routes row =
    ((pos 0 ≤ℤ row.price) × (row.count ≤ plan_entries row.customers routes))
    ⊎ ((row.price ≤ℤ pos 0) × (plan_entries row.customers routes ≤ row.count))

abbrev pub set_demand : Problem → ℕ → ℕ
set_demand p set = sum_by (λ customer. bit_at set customer * demand_of p customer) (customers p)

-- the price is not negative, and the customers of the set demand more than `count` - 1 trucks carry
pub record IsNeededByDemand (p : Problem) (row : EntryRow) : Type 0 where
  pub price : pos 0 ≤ℤ row.price
  pub depot : bit_at row.customers 0 ≡ 0
  pub demand : row.count * p.capacity < set_demand p row.customers + p.capacity

abbrev pub HasAllCustomers : Problem → ℕ → Type 0
HasAllCustomers p set = All (λ customer. bit_at set customer ≡ 1) (customers p)

-- the price is not positive, and there are at most `count` trucks, each of which enters the set of all customers once
pub record IsNeededByTrucks (p : Problem) (row : EntryRow) : Type 0 where
  pub price : row.price ≤ℤ pos 0
  pub whole : HasAllCustomers p row.customers
  pub trucks : IsSomeAnd p.trucks (λ trucks. trucks ≤ row.count)

-- a reason why every feasible plan obeys the row
abbrev pub IsNeeded : Problem → EntryRow → Type 0
IsNeeded p row = IsNeededByDemand p row ⊎ IsNeededByTrucks p row

-- the price is not negative, and of at least so many routes each enters the set of all customers
pub record IsNeededByLeast (p : Problem) (least : ℕ) (row : EntryRow) : Type 0 where
  pub price : pos 0 ≤ℤ row.price
  pub whole : HasAllCustomers p row.customers
  pub depot : bit_at row.customers 0 ≡ 0
  pub routes : row.count ≤ least

-- the price is not positive, and of at most so many routes each enters the set of all customers once
pub record IsNeededByMost (p : Problem) (most : Option ℕ) (row : EntryRow) : Type 0 where
  pub price : row.price ≤ℤ pos 0
  pub whole : HasAllCustomers p row.customers
  pub routes : IsSomeAnd most (λ routes. routes ≤ row.count)

-- a reason why every feasible plan with at least and at most so many routes obeys the row
abbrev pub IsNeededFor : Problem → ℕ → Option ℕ → EntryRow → Type 0
IsNeededFor p least most row = IsNeeded p row ⊎ (IsNeededByLeast p least row ⊎ IsNeededByMost p most row)

-- ---- subset rows

-- The state of a row, 0 or 1, at the first of the stops, as read from the last one: a stop outside the memory makes it 0, and then a
-- customer of the row changes it.
abbrev pub state_of : SubsetRow → List ℕ → ℕ
state_of row [] = 0
state_of row (stop ∷ stops) = (min (state_of row stops) (bit_at row.memory stop) + bit_at row.customers stop) % 2

-- how often a customer of the row changes its state from 1 to 0
abbrev pub turns_of : SubsetRow → List ℕ → ℕ
turns_of row [] = 0
turns_of row (stop ∷ stops) = turns_of row stops + min (state_of row stops) (bit_at row.customers stop)

-- how many pairs of the row's customers there are among the stops: the turns if the memory has all places
abbrev pub pairs_of : SubsetRow → List ℕ → ℕ
pairs_of row stops = sum_by (bit_at row.customers) stops / 2

-- no plan has more pairs: 1 for three customers, 2 for five
abbrev pub most_pairs : SubsetRow → ℕ
most_pairs row = count_ones row.customers / 2

-- three or five customers
abbrev pub HasRowSize : SubsetRow → Type 0
HasRowSize row = IsTrue (count_ones row.customers == 3 || count_ones row.customers == 5)

-- the memory has the row's customers
abbrev pub IsRemembered : SubsetRow → Type 0
IsRemembered row = (place : ℕ) → bit_at row.customers place ≤ bit_at row.memory place

-- ---- reduced costs

-- what the entry rows pay to a route
abbrev pub entry_payment : List EntryRow → List ℕ → ℤ
entry_payment entries route = int_sum_by (λ row. pos (route_entries row.customers route) *ℤ row.price) entries

-- what a route pays for the subset rows, each as often as `times` says
abbrev pub row_charge : (SubsetRow → List ℕ → ℕ) → List SubsetRow → List ℕ → ℕ
row_charge times rows route = sum_by (λ row. times row route * row.price) rows

abbrev pub reduced_by : (SubsetRow → List ℕ → ℕ) → Problem → DualsOf → List ℕ → ℤ
reduced_by times p d route =
    pos (d.scale * route_cost p route + row_charge times d.rows route) -ℤ int_sum_by (price_of d) route -ℤ entry_payment d.entries route

-- the reduced cost of a route, which pays the price of a subset row at each turn
abbrev pub reduced : Problem → DualsOf → List ℕ → ℤ
reduced p d route = reduced_by turns_of p d route

-- the reduced cost with full counts, where a route pays the price for each pair of the row's customers
abbrev pub reduced_full : Problem → DualsOf → List ℕ → ℤ
reduced_full p d route = reduced_by pairs_of p d route

-- what the prices say that a plan costs at least, in price units, if no reduced cost is negative
abbrev pub low_of : DualsOf → ℤ
low_of d =
    int_sum_by (price_of d) (range_with_len 1 (length d.prices - 1)) +ℤ int_sum_by (λ row. pos row.count *ℤ row.price) d.entries
    -ℤ pos (sum_by (λ row. most_pairs row * row.price) d.rows)

-- ---- admissible prices

-- dual prices for the places of a problem
pub record AreDualsOf (p : Problem) (d : DualsOf) : Type 0 where
  pub one_each : length d.prices ≡ place_count p
  pub depot : price_of d 0 ≡ pos 0
  pub remembered : All IsRemembered d.rows

-- few places and rows, and prices of moderate size, so that sums of them fit
pub record AreModerate (d : DualsOf) : Type 0 where
  pub some_places : 1 ≤ length d.prices
  pub few_places : length d.prices ≤ PLACES
  pub some_scale : 1 ≤ d.scale
  pub small_scale : d.scale ≤ MAX_SCALE
  pub depot : price_of d 0 ≡ pos 0
  pub small_prices : All (λ price. unsigned_abs price ≤ MAX_PRICE) d.prices
  pub few_entries : length d.entries ≤ MAX_ENTRY_ROWS
  pub small_entries : All (λ (row : EntryRow). unsigned_abs row.price ≤ MAX_ENTRY_PRICE) d.entries
  pub outside : All (λ (row : EntryRow). bit_at row.customers 0 ≡ 0) d.entries
  pub few_rows : length d.rows ≤ MAX_SUBSET_ROWS
  pub small_rows : All (λ (row : SubsetRow). row.price ≤ MAX_ROW_PRICE) d.rows
  pub sizes : All HasRowSize d.rows
  pub remembered : All IsRemembered d.rows
