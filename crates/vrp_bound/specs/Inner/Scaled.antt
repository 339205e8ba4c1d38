-- The problem of some customers, in their unit, with the ng-sets of its walks, and the contents of the tables over them.
use Rattle.std.specs.Prelude.{◌≡◌, ℕ, ◌-◌, List, Option, None, Some}
use Rattle.std.specs.Borrow.{Bor}
use Rattle.std.specs.Option.{ForSome, option_map}
use Rattle.vrp_model.specs.Near.{NearOf, near_in}
use Rattle.vrp_model.specs.Problem.{Problem}
use Rattle.vrp_bound.specs.declared.units.UnitScope.{UnitScope}
use Rattle.vrp_bound.specs.Inner.CompletionCells.{IsCompletionTable, IsCompletionTableSoFar, AreTours, AreToursSoFar, AreWalks, AreWalksSoFar, HasRelaxed, HasTours, HasWalk, IsLeastCell}
use Rattle.vrp_bound.specs.Inner.Units.{in_units}
use Rattle.vrp_bound.specs.NgWalks.{nothing_near}
use Rattle.vrp_bound.specs.Tables.{room_of}

-- the problem with its demands counted in the unit
abbrev pub scaled : UnitScope → Problem
scaled scope = in_units scope.unit scope.instance.now

-- the customers near each place; none if walks have no ng-sets
abbrev pub near_of : Option NearOf → ℕ → List ℕ
near_of None = nothing_near
near_of (Some near) = near_in near

abbrev pub near_with : Option (Bor NearOf) → ℕ → List ℕ
near_with ng_sets = near_of (option_map (λ m. m.now) ng_sets)

-- the ng-sets of walks, if they have any, are for this many places
abbrev pub IsOfPlaces : Option (Bor NearOf) → ℕ → Type 0
IsOfPlaces ng_sets places = ForSome ng_sets (λ ng_sets. ng_sets.now.places ≡ places)

abbrev pub near_by : UnitScope → ℕ → List ℕ
near_by scope = near_with scope.ng_sets

-- the lesser of their total demand and the capacity
abbrev pub room_over : UnitScope → ℕ
room_over scope = room_of (scaled scope) scope.customers.now

-- the cells of the walks
abbrev pub AreWalksOver : UnitScope → List ℕ → Type 0
AreWalksOver scope cells = AreWalks (scaled scope) (near_by scope) scope.customers.now cells

-- the cells of walks that remember only their next stop
abbrev pub ArePlainWalks : UnitScope → List ℕ → Type 0
ArePlainWalks scope cells = AreWalks (scaled scope) nothing_near scope.customers.now cells

abbrev pub ArePlainWalksSoFar : UnitScope → List ℕ → Type 0
ArePlainWalksSoFar scope cells = AreWalksSoFar (scaled scope) nothing_near scope.customers.now cells

-- the least such walk from a place with this load
abbrev pub IsLeastPlainWalk : UnitScope → ℕ → ℕ → ℕ → Type 0
IsLeastPlainWalk scope at load cell = IsLeastCell (HasWalk (scaled scope) nothing_near scope.customers.now at load) cell

-- the cells of the tours
abbrev pub AreToursOver : UnitScope → List ℕ → Type 0
AreToursOver scope cells = AreTours (scaled scope) (near_by scope) scope.customers.now cells

abbrev pub AreToursOverSoFar : UnitScope → List ℕ → Type 0
AreToursOverSoFar scope cells = AreToursSoFar (scaled scope) (near_by scope) scope.customers.now cells

-- the least cost of tours that carry the rest
abbrev pub IsLeastTours : UnitScope → ℕ → ℕ → Type 0
IsLeastTours scope rest cell = IsLeastCell (HasTours (scaled scope) (near_by scope) scope.customers.now rest) cell

-- the cells of the completion table
abbrev pub IsCompletionTableOver : UnitScope → List ℕ → Type 0
IsCompletionTableOver scope cells = IsCompletionTable (scaled scope) (near_by scope) scope.customers.now cells

abbrev pub IsCompletionTableOverSoFar : UnitScope → List ℕ → Type 0
IsCompletionTableOverSoFar scope cells = IsCompletionTableSoFar (scaled scope) (near_by scope) scope.customers.now cells

-- the least cost of carrying the rest from a place, when the open truck has this much room
abbrev pub IsLeastCompletion : UnitScope → ℕ → ℕ → ℕ → ℕ → Type 0
IsLeastCompletion scope at free rest cell =
    let p = scaled scope in
    IsLeastCell (HasRelaxed p (near_by scope) scope.customers.now at (p.capacity - free) rest) cell
