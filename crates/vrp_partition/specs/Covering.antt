-- The cheapest choice of some columns, by the exact cover.
use Rattle.std.specs.Prelude.{◌≡◌, ◌<◌, ◌≤◌, ◌&&◌, ◌==◌, nat_le, ℕ, Bool, List, bit_and, unsigned_abs}
use Rattle.std.specs.List.{sum_by}
use Rattle.vrp_partition.specs.Choice.{IsChoice}
use Rattle.vrp_partition.specs.Prices.{Prices, reduced_cost_of}
use Rattle.vrp_partition.specs.declared.route.Route.{Route}
use Rattle.vrp_partition.specs.declared.cover.Column.{Column}

abbrev pub column_set : Column → ℕ
column_set column = column.set

abbrev pub columns_cost : List Column → ℕ
columns_cost columns = sum_by (λ c. c.cost) columns

abbrev pub columns_reduced_cost : List Column → ℕ
columns_reduced_cost columns = sum_by (λ c. c.reduced_cost) columns

-- Of the choices whose reduced costs add up to the gap at most none costs less than what was found. That is the incumbent's cost,
-- or below it the cost of the parts, which are a choice
pub record IsLeast (columns : List Column) (unserved trucks incumbent gap found : ℕ) (parts : List Column) : Type 0 where
  pub most : found ≤ incumbent
  pub least : (others : List Column) → IsChoice column_set columns unserved trucks others
      → columns_reduced_cost others ≤ gap → found ≤ columns_cost others
  pub attained : found < incumbent → IsChoice column_set columns unserved trucks parts × (columns_cost parts ≡ found)

-- whether a column has no customer but these, and no greater reduced cost
abbrev pub is_inside : ℕ → ℕ → Column → Bool
is_inside unserved gap column = (bit_and column.set unserved == column.set) && nat_le column.reduced_cost gap

-- a route as a column, with its reduced cost
abbrev pub column_of : Prices → ℕ → Route → Column
column_of prices scale route = record {
  set = route.set;
  reduced_cost = unsigned_abs (reduced_cost_of prices scale route);
  cost = route.cost;
}

-- the route of a column
abbrev pub route_of : Column → Route
route_of column = record { set = column.set; cost = column.cost }
