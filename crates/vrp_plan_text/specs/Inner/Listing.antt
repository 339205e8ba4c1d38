-- The data kept from the lines of a text while they are read.
use Rattle.std.specs.Prelude.{◌≡◌, ◌≢◌, ◌⊎◌, ℕ, ℤ, pos, Option, Some, None, Ok, IsErr, List, [], ◌∷◌, ◌++◌, filter, map}
use Rattle.std.specs.List.{All, Contains}
use Rattle.vrp_model.specs.Problem.{Problem, customers}
use Rattle.vrp_plan_text.specs.Line.{Cost, Line, Number}
use Rattle.vrp_plan_text.specs.Solution.{AreCustomers, FollowsCustomers, GivenRoute, IsSaid, is_cost, is_route, line_of_route, with_stops}
use Rattle.vrp_plan_text.specs.Inner.Read.{number_stated}
use Rattle.vrp_plan_text.specs.declared.reading.error.SolutionError.{SolutionError}
use Rattle.vrp_plan_text.specs.declared.reading.error.SolutionError.TheVariants as error
use Rattle.vrp_plan_text.specs.declared.reading.line.LineError.{LineError}
use Rattle.vrp_plan_text.specs.declared.reading.line.LineError.TheVariants as bad
use Rattle.vrp_plan_text.specs.declared.reading.line.StatedCost.{StatedCost}
use Rattle.vrp_plan_text.specs.declared.reading.line.StatedCost.TheVariants.{Whole, Fraction}
use Rattle.vrp_plan_text.specs.declared.reading.listing.ListedPlan.{ListedPlan}
use Rattle.vrp_plan_text.specs.declared.reading.route.NonemptyRoute.{NonemptyRoute}

abbrev pub given_route : NonemptyRoute → GivenRoute
given_route route = record { number = route.number; stops = route.stops.items }

abbrev pub given_routes : List NonemptyRoute → List GivenRoute
given_routes routes = map given_route routes

-- the line of the stated cost, if there is one
abbrev pub cost_lines : Option StatedCost → List Line
cost_lines None = []
cost_lines (Some cost) = Cost (number_stated cost) ∷ []

-- the stated cost, if it is whole
abbrev pub kept_cost : Option StatedCost → Option ℕ
kept_cost None = None
kept_cost (Some (Whole cost)) = Some cost
kept_cost (Some Fraction) = None

-- no line is at fault, and this is what the lines list
pub record Keeps (p : Problem) (lines : List Line) (listing : ListedPlan) : Type 0 where
  pub said : All IsSaid lines
  pub costs : filter is_cost lines ≡ cost_lines listing.cost
  pub given : List GivenRoute
  pub listed : filter is_route lines ≡ map line_of_route given
  pub kept : given_routes listing.routes.items ≡ with_stops given
  pub customers : All (λ route. AreCustomers p route.stops) (given_routes listing.routes.items)

-- a stop behind customers is not a whole number, or not a customer
abbrev pub IsStopFault : Problem → ℕ → ℕ → List Number → SolutionError → Type 0
IsStopFault p line route stops fault =
    ((fault ≡ error.BadNumber line) × ((bad : Number) × IsErr bad × FollowsCustomers p stops bad))
    ⊎ ((stop : ℤ) × (fault ≡ error.NotACustomer route stop) × FollowsCustomers p stops (Ok stop) × ((customer : ℕ) → Contains (customers p) customer → stop ≢ pos customer))

-- a cost is stated for the first time
pub record IsCostAdded (cost : StatedCost) (old new : ListedPlan) : Type 0 where
  pub first : old.cost ≡ None
  pub stated : new.cost ≡ Some cost
  pub routes : new.routes ≡ old.routes

-- a route is listed; a route without stops is ignored
pub record IsRouteAdded (number : ℕ) (stops : List ℕ) (old new : ListedPlan) : Type 0 where
  pub cost : new.cost ≡ old.cost
  pub routes : given_routes new.routes.items ≡ given_routes old.routes.items ++ with_stops (record { number = number; stops = stops } ∷ [])

-- the reason for refusing a text with such a line
abbrev pub fault_at : ℕ → LineError → SolutionError
fault_at line bad.Unknown = error.UnknownLine line
fault_at line bad.BadNumber = error.BadNumber line
