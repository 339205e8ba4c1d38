-- Why a pass refuses what it is given.
use Rattle.std.specs.Prelude.{◌≢◌, ℕ}
use Rattle.std.specs.List.{All}
use Rattle.vrp_duals.specs.Duals.{DualsOf, IsNeededFor}
use Rattle.vrp_model.specs.Problem.{Problem, place_count}
use Rattle.vrp_routes.specs.declared.plan_range.PlanRange.{PlanRange}
use Rattle.vrp_priced_routes.specs.declared.fault.PassFault.{PassFault}
use Rattle.vrp_priced_routes.specs.declared.fault.PassFault.TheVariants.{Demands, EntryRow, Gap, NearSets}

-- some entry row isn't needed for the range, or there isn't one ng-set for each place; of the other two nothing is said
abbrev pub IsFault : Problem → PlanRange → DualsOf → ℕ → PassFault → Type 0
IsFault p range d near EntryRow = All (IsNeededFor p range.least_routes range.most_routes) d.entries → ⊥
IsFault p range d near NearSets = near ≢ place_count p
IsFault p range d near Demands = Unit {0}
IsFault p range d near Gap = Unit {0}
