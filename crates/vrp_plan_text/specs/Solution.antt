-- The feasible plan that a text in CVRPLIB's format gives, and when there is none.
use Rattle.std.specs.Prelude.{◌≡◌, ◌≢◌, ◌⊎◌, ℕ, ℤ, pos, unsigned_abs, ◌+◌, ◌≤◌, ◌<◌, ◌==◌, Bool, true, false, not, Option, None, Some, Ok, Err, IsErr, List, ◌∷◌, ◌++◌, filter, length, map, ⊤}
use Rattle.std.specs.List.{All, AllPairs, Contains, concat, slice_get}
use Rattle.std.specs.Option.{option_and_then}
use Rattle.std.specs.List.Sorted.{IsPermutation}
use Rattle.vrp_text.specs.declared.lexer.fault.FileLineFault.TheVariants.{BadNumber}
use Rattle.vrp_model.specs.Problem.{HasTrucks, IsSymmetric, Problem, customers}
use Rattle.vrp_model.specs.Route.{AreTurned, IsPlanOf, OverloadsNoTruck, PricedPlan, load_of, plan_cost}
use Rattle.vrp_plan_text.specs.Line.{Blank, Cost, Line, Number, Route, Unknown, lines_of}
use Rattle.vrp_plan_text.specs.declared.reading.error.SolutionError.{SolutionError}
use Rattle.vrp_plan_text.specs.declared.reading.error.SolutionError.TheVariants as error

-- a route that a text lists: its number, and its stops as places
pub record GivenRoute : Type 0 where
  pub number : ℕ
  pub stops : List ℕ

abbrev pub is_route : Line → Bool
is_route Blank = false
is_route (Route number stops) = true
is_route (Cost cost) = false
is_route Unknown = false

abbrev pub is_cost : Line → Bool
is_cost Blank = false
is_cost (Route number stops) = false
is_cost (Cost cost) = true
is_cost Unknown = false

-- a line is not unknown, and a stated cost is a number, whole or not
abbrev pub IsSaid : Line → Type 0
IsSaid Blank = ⊤
IsSaid (Route number stops) = ⊤
IsSaid (Cost cost) = cost ≢ Err BadNumber
IsSaid Unknown = ⊥

-- the line of a route
abbrev pub line_of_route : GivenRoute → Line
line_of_route route = Route (Ok (pos route.number)) (map (λ stop. Ok (pos stop)) route.stops)

-- a route without stops is ignored
abbrev pub with_stops : List GivenRoute → List GivenRoute
with_stops routes = filter (λ route. not (length route.stops == 0)) routes

-- all stops are customers
abbrev pub AreCustomers : Problem → List ℕ → Type 0
AreCustomers p stops = All (Contains (customers p)) stops

-- No line is at fault by itself, and the routes with stops are these, in order: no line is unknown, at most one states a
-- cost, and all stops are customers.
pub record ListRoutes (p : Problem) (lines : List Line) (routes : List GivenRoute) : Type 0 where
  pub said : All IsSaid lines
  pub one_cost : length (filter is_cost lines) ≤ 1
  pub given : List GivenRoute
  pub listed : filter is_route lines ≡ map line_of_route given
  pub with_stops : routes ≡ with_stops given
  pub customers : All (λ route. AreCustomers p route.stops) routes

-- the stops of each route
abbrev pub stops_of : List GivenRoute → List (List ℕ)
stops_of routes = map (λ route. route.stops) routes

-- The text lists exactly the routes of the plan, in some order: each as listed or, only in a symmetric problem, reversed. The plan is
-- feasible, and costs what the listed routes cost.
pub record GivesPlan (p : Problem) (text : List ℕ) (plan : PricedPlan) : Type 0 where
  pub routes : List GivenRoute
  pub listed : ListRoutes p (lines_of text) routes
  pub ordered : List (List ℕ)
  pub same : IsPermutation (stops_of routes) ordered
  pub turned : AreTurned ordered plan.routes
  pub as_listed : (IsSymmetric p → ⊥) → plan.routes ≡ ordered
  pub cost : plan.cost ≡ plan_cost p (stops_of routes)
  pub plan_of : IsPlanOf p plan

-- the cost that a line states, if it is whole
abbrev pub whole_cost : Line → Option ℕ
whole_cost Blank = None
whole_cost (Route number stops) = None
whole_cost (Cost (Ok cost)) = Some (unsigned_abs cost)
whole_cost (Cost (Err fault)) = None
whole_cost Unknown = None

-- the cost that a text states: that of the first line with one, if it is whole
abbrev pub stated_cost : List ℕ → Option ℕ
stated_cost text = option_and_then whole_cost (slice_get (filter is_cost (lines_of text)) 0)

-- a line states a cost different from this one
abbrev pub StatesOtherCost : List ℕ → ℕ → Type 0
StatesOtherCost text cost = (stated : Number) × Contains (lines_of text) (Cost stated) × (stated ≢ Ok (pos cost))

-- The line of this number says this, and no line before it is at fault. The first line is line 1.
pub record IsFirstAtFault (p : Problem) (lines : List Line) (number : ℕ) (line : Line) : Type 0 where
  pub before : List Line
  pub behind : List Line
  pub stands : lines ≡ before ++ line ∷ behind
  pub numbered : number ≡ length before + 1
  pub routes : List GivenRoute
  pub sound : ListRoutes p before routes

-- this is one of a route's stops, and all stops before it are customers
pub record FollowsCustomers (p : Problem) (stops : List Number) (next : Number) : Type 0 where
  pub passed : List ℕ
  pub behind : List Number
  pub stands : stops ≡ map (λ stop. Ok (pos stop)) passed ++ next ∷ behind
  pub customers : AreCustomers p passed

-- A cost is not a number, or a route's number is not whole, or one of its stops isn't and all stops before it are customers.
abbrev pub HasBadNumber : Problem → Line → Type 0
HasBadNumber p Blank = ⊥
HasBadNumber p (Route number stops) = IsErr number ⊎ ((bad : Number) × IsErr bad × FollowsCustomers p stops bad)
HasBadNumber p (Cost cost) = cost ≡ Err BadNumber
HasBadNumber p Unknown = ⊥

-- a line states a cost that is a number, and so does an earlier one
pub record IsRepeatedCost (p : Problem) (lines : List Line) (number : ℕ) : Type 0 where
  pub cost : Number
  pub first : IsFirstAtFault p lines number (Cost cost)
  pub said : cost ≢ Err BadNumber
  pub other : Number
  pub earlier : Contains first.before (Cost other)

-- a route's line has a stop that is not a customer, and all stops before it are customers
pub record HasNoCustomer (p : Problem) (lines : List Line) (route : ℕ) (stop : ℤ) : Type 0 where
  pub line : ℕ
  pub stops : List Number
  pub first : IsFirstAtFault p lines line (Route (Ok (pos route)) stops)
  pub stands : FollowsCustomers p stops (Ok stop)
  pub none : (customer : ℕ) → Contains (customers p) customer → stop ≢ pos customer

-- no customer occurs twice in these routes, and no load is above the capacity
pub record AreSound (p : Problem) (routes : List GivenRoute) : Type 0 where
  pub once : AllPairs (λ a b. a ≢ b) (concat (stops_of routes))
  pub fits : OverloadsNoTruck p (stops_of routes)

-- a route with this number follows these, which have no fault
pub record IsFirstRoute (p : Problem) (routes : List GivenRoute) (number : ℕ) (earlier : List GivenRoute) (route : GivenRoute) : Type 0 where
  pub later : List GivenRoute
  pub stands : routes ≡ earlier ++ route ∷ later
  pub numbered : route.number ≡ number
  pub sound : AreSound p earlier

-- a customer occurs in a route, and before that in the same route or in an earlier one
pub record IsServedTwice (p : Problem) (routes : List GivenRoute) (number customer : ℕ) : Type 0 where
  pub earlier : List GivenRoute
  pub route : GivenRoute
  pub first : IsFirstRoute p routes number earlier route
  pub before : List ℕ
  pub behind : List ℕ
  pub stands : route.stops ≡ before ++ customer ∷ behind
  pub once : AllPairs (λ a b. a ≢ b) (concat (stops_of earlier) ++ before)
  pub served : Contains (concat (stops_of earlier) ++ before) customer

-- a route's load, which is above the capacity
pub record IsOverloaded (p : Problem) (routes : List GivenRoute) (number load capacity : ℕ) : Type 0 where
  pub earlier : List GivenRoute
  pub route : GivenRoute
  pub first : IsFirstRoute p routes number earlier route
  pub once : AllPairs (λ a b. a ≢ b) (concat (stops_of earlier) ++ route.stops)
  pub loaded : load ≡ load_of p route.stops
  pub room : capacity ≡ p.capacity
  pub above : capacity < load

-- the lowest customer in no route
pub record IsNotServed (p : Problem) (routes : List GivenRoute) (customer : ℕ) : Type 0 where
  pub sound : AreSound p routes
  pub known : Contains (customers p) customer
  pub nowhere : Contains (concat (stops_of routes)) customer → ⊥
  pub lowest : (lower : ℕ) → Contains (customers p) lower → lower < customer → Contains (concat (stops_of routes)) lower

-- all customers are in these routes, and there are this many routes but fewer trucks
pub record AreTooMany (p : Problem) (routes : List GivenRoute) (count : ℕ) : Type 0 where
  pub sound : AreSound p routes
  pub every : All (Contains (concat (stops_of routes))) (customers p)
  pub counted : length routes ≡ count
  pub more : HasTrucks p count → ⊥

-- no line is at fault by itself, and the listed routes have this property
abbrev pub ListedAre : Problem → List Line → (List GivenRoute → Type 0) → Type 0
ListedAre p lines are = (routes : List GivenRoute) × ListRoutes p lines routes × are routes

-- The first fault, line by line and then route by route. Lack of memory is not a fault of the lines.
abbrev pub HaveFault : Problem → List Line → SolutionError → Type 0
HaveFault p lines (error.UnknownLine line) = IsFirstAtFault p lines line Unknown
HaveFault p lines (error.BadNumber line) = (says : Line) × IsFirstAtFault p lines line says × HasBadNumber p says
HaveFault p lines (error.RepeatedCost line) = IsRepeatedCost p lines line
HaveFault p lines (error.NotACustomer route customer) = HasNoCustomer p lines route customer
HaveFault p lines (error.ServedTwice route customer) = ListedAre p lines (λ routes. IsServedTwice p routes route customer)
HaveFault p lines (error.NotServed customer) = ListedAre p lines (λ routes. IsNotServed p routes customer)
HaveFault p lines (error.Overloaded route load capacity) = ListedAre p lines (λ routes. IsOverloaded p routes route load capacity)
HaveFault p lines (error.TooManyRoutes count) = ListedAre p lines (λ routes. AreTooMany p routes count)
HaveFault p lines error.OutOfMemory = ⊥

abbrev pub IsRefusedFor : Problem → List ℕ → SolutionError → Type 0
IsRefusedFor p text fault = HaveFault p (lines_of text) fault
