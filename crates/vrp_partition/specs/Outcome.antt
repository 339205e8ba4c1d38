-- What is known of a node once its routes are priced. `fewest`: choices with fewer routes are out of the question.
use Rattle.std.specs.Prelude.{◌≡◌, ◌≤◌, ℕ, List, map}
use Rattle.std.specs.List.{All, Contains}
use Rattle.vrp_partition.specs.Choice.{IsCheapest, NoneBelow}
use Rattle.vrp_partition.specs.Covering.{IsLeast, route_of}
use Rattle.vrp_partition.specs.declared.cover.Column.{Column}
use Rattle.vrp_partition.specs.declared.route.Route.{Route}
use Rattle.vrp_partition.specs.declared.bounding.Chosen.{Chosen}
use Rattle.vrp_partition.specs.declared.bounding.OpenRoutes.{OpenRoutes}
use Rattle.vrp_partition.specs.declared.bounding.NodeOutcome.{NodeOutcome}
use Rattle.vrp_partition.specs.declared.bounding.NodeOutcome.TheVariants.{Solved, Open}

-- routes of the pool, of which no choice costs less than a number up to the incumbent where none of the pool does; and what each
-- choice of the pool costs at least
pub record IsLeft (pool : List Route) (customers trucks fewest incumbent : ℕ) (left : OpenRoutes) : Type 0 where
  pub parts : All (Contains pool) left.routes.items
  pub least : (limit : ℕ) → limit ≤ incumbent → NoneBelow left.routes.items customers trucks fewest limit → NoneBelow pool customers trucks fewest limit
  pub bound : NoneBelow pool customers trucks fewest left.lower_bound

-- the node's answer, or the routes that are left of it
abbrev pub IsOutcome : List Route → ℕ → ℕ → ℕ → ℕ → NodeOutcome → Type 0
IsOutcome pool customers trucks fewest incumbent (Solved chosen) =
    IsCheapest pool customers trucks fewest incumbent chosen.cost chosen.routes.items
IsOutcome pool customers trucks fewest incumbent (Open left) = IsLeft pool customers trucks fewest incumbent left

-- the routes of the columns that the exact cover found
pub record IsLeastOf (columns : List Column) (customers trucks incumbent gap : ℕ) (chosen : Chosen) : Type 0 where
  pub parts : List Column
  pub least : IsLeast columns customers trucks incumbent gap chosen.cost parts
  pub routes : chosen.routes.items ≡ map route_of parts
