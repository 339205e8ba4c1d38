-- Dual prices folded into signed prices of arcs, and into the sets of subset rows that each place has to do with. A set of rows is a number
-- with a bit for each row.
use Rattle.std.specs.Prelude.{◌≡◌, ◌≤◌, ◌<◌, ℕ, ℤ, pos, ◌+ℤ◌, ◌-ℤ◌, ◌*ℤ◌, ◌+◌, ◌*◌, ◌/◌, ◌%◌, List, [], ◌∷◌, bit_and, bit_xor, length, map, slice_index, slice_index_or, unsigned_abs}
use Rattle.std.specs.Int.{bit_at}
use Rattle.std.specs.List.{All}
use Rattle.vrp_model.specs.declared.customers.customer_set.TheConstants.{PLACES}
use Rattle.vrp_model.specs.Problem.{Problem, place_count, weight_of}
use Rattle.vrp_duals.specs.Duals.{DualsOf, entry, int_sum_by, price_of}
use Rattle.vrp_duals.specs.declared.limits.TheConstants.{MAX_ARC_PRICE, MAX_ROW_PRICE, MAX_SUBSET_ROWS}
use Rattle.vrp_duals.specs.declared.rows.SubsetRow.{SubsetRow}

pub record FoldedOf : Type 0 where
  -- the depot, which is place 0, and the customers
  pub places : ℕ
  -- the price of the arc from each place to each place, row by row
  pub arc_prices : List ℤ
  -- for each place, the rows that have it
  pub members : List ℕ
  -- for each place, the rows whose memory has it
  pub memories : List ℕ
  -- the price of each row
  pub row_prices : List ℕ

abbrev pub folded_of : ℕ → List ℤ → List ℕ → List ℕ → List ℕ → FoldedOf
folded_of places arc_prices members memories row_prices = record {
  places = places;
  arc_prices = arc_prices;
  members = members;
  memories = memories;
  row_prices = row_prices;
}

abbrev pub arc_of : FoldedOf → ℕ → ℕ → ℤ
arc_of f from to = slice_index_or f.arc_prices (from * f.places + to) (pos 0)

abbrev pub members_at : FoldedOf → ℕ → ℕ
members_at f place = slice_index f.members place

abbrev pub memories_at : FoldedOf → ℕ → ℕ
memories_at f place = slice_index f.memories place

-- ---- along a route

-- the sum of the prices of a set of rows, the lowest bit first
abbrev pub weigh : List ℕ → ℕ → ℕ
weigh [] rows = 0
weigh (price ∷ prices) rows = rows % 2 * price + weigh prices (rows / 2)

-- The rows in state 1 after a stop: of those before it the ones whose memory has the stop, but changed where the row itself has it.
abbrev pub rows_at : FoldedOf → ℕ → ℕ → ℕ
rows_at f stop rows = bit_xor (bit_and rows (memories_at f stop)) (members_at f stop)

-- what is due at a stop: the prices of the rows that turn there, from state 1 to 0
abbrev pub due_at : FoldedOf → ℕ → ℕ → ℕ
due_at f stop rows = weigh f.row_prices (bit_and rows (members_at f stop))

-- the rows in state 1 at the first of the stops, as read from the last one
abbrev pub rows_of : FoldedOf → List ℕ → ℕ
rows_of f [] = 0
rows_of f (stop ∷ stops) = rows_at f stop (rows_of f stops)

-- the first of the stops, or the depot if there is none
abbrev pub first_of : List ℕ → ℕ
first_of [] = 0
first_of (stop ∷ stops) = stop

-- what it costs to go from the first of the stops through the others to the depot: the arcs, and what is due at each stop
abbrev pub home_cost : FoldedOf → List ℕ → ℤ
home_cost f [] = pos 0
home_cost f (stop ∷ stops) = home_cost f stops +ℤ arc_of f stop (first_of stops) +ℤ pos (due_at f stop (rows_of f stops))

-- what a route costs, from the depot and back
abbrev pub folded_cost : FoldedOf → List ℕ → ℤ
folded_cost f route = arc_of f 0 (first_of route) +ℤ home_cost f route

-- ---- folding

-- a bit for each element, the lowest for the first
abbrev pub bits_of : {X : Type 0} → (X → ℕ) → List X → ℕ
bits_of f [] = 0
bits_of f (x ∷ xs) = f x + 2 * bits_of f xs

-- the price of an arc: its weight in price units, less the price of the place that it comes to and of the sets that it enters
abbrev pub arc_price : Problem → DualsOf → ℕ → ℕ → ℤ
arc_price p d from to =
    pos (d.scale * weight_of p from to) -ℤ price_of d to -ℤ int_sum_by (λ row. pos (entry row.customers from to) *ℤ row.price) d.entries

abbrev pub row_prices_of : DualsOf → List ℕ
row_prices_of d = map (λ (row : SubsetRow). row.price) d.rows

-- the folded prices are those of a problem and its dual prices
pub record IsFolded (p : Problem) (d : DualsOf) (f : FoldedOf) : Type 0 where
  pub places : f.places ≡ place_count p
  pub arcs : (from to : ℕ) → from < place_count p → to < place_count p → arc_of f from to ≡ arc_price p d from to
  pub members : (place : ℕ) → place < place_count p → members_at f place ≡ bits_of (λ (row : SubsetRow). bit_at row.customers place) d.rows
  pub memories : (place : ℕ) → place < place_count p → memories_at f place ≡ bits_of (λ (row : SubsetRow). bit_at row.memory place) d.rows
  pub row_prices : (row : ℕ) → slice_index f.row_prices row ≡ slice_index (row_prices_of d) row

-- at each place all rows
abbrev pub AreFull : DualsOf → List ℕ → Type 0
AreFull d memories = (place : ℕ) → place < length d.prices → slice_index memories place ≡ bits_of (λ (row : SubsetRow). 1) d.rows

-- the folded prices with other memories
abbrev pub remembering : FoldedOf → List ℕ → FoldedOf
remembering f memories = record f { memories = memories }

-- each arc costs what the arc the other way costs, and the rows are the same
pub record AreReversed (f reversed : FoldedOf) : Type 0 where
  pub places : reversed.places ≡ f.places
  pub arcs : (from to : ℕ) → from < f.places → to < f.places → arc_of reversed from to ≡ arc_of f to from
  pub members : reversed.members ≡ f.members
  pub memories : reversed.memories ≡ f.memories
  pub row_prices : reversed.row_prices ≡ f.row_prices

-- a table for each place, and prices of moderate size, so that sums of them fit
pub record IsTable (f : FoldedOf) : Type 0 where
  pub some_places : 1 ≤ f.places
  pub few_places : f.places ≤ PLACES
  pub arcs : length f.arc_prices ≡ f.places * f.places
  pub small_arcs : All (λ price. unsigned_abs price ≤ MAX_ARC_PRICE) f.arc_prices
  pub members : length f.members ≡ f.places
  pub memories : length f.memories ≡ f.places
  pub rows : length f.row_prices ≡ MAX_SUBSET_ROWS
  pub small_rows : All (λ price. price ≤ MAX_ROW_PRICE) f.row_prices
