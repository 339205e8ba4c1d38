-- The routes of one length as they are closed, of each set the cheapest.
use Rattle.std.specs.Prelude.{◌≡◌, ◌⊎◌, ℕ, ◌*◌, ◌/◌, ◌%◌, ◌^◌, ◌<◌, ◌≤◌, ◌==◌, if◌then◌else◌, Bool, true, Option, None, Some, List, [], ◌∷◌, ◌++◌, Vec, drop, length, slice_index_or, slice_set}
use Rattle.std.specs.Global.{Global}
use Rattle.std.specs.HashMap.{get}
use Rattle.std.specs.List.{All, Contains}
use Rattle.vrp_model.specs.Problem.{Problem}
use Rattle.vrp_model.specs.CustomerSet.{folded_of, set_of}
use Rattle.vrp_routes.specs.Label.{SettingOf}
use Rattle.vrp_routes.specs.Level.{IsLevel}
use Rattle.vrp_routes.specs.Pool.{IsListed, RouteOf}
use Rattle.vrp_routes.specs.Useful.{IsUsefulIn}
use Rattle.vrp_routes.specs.declared.closed.ClosedLevel.{ClosedLevel}
use Rattle.vrp_routes.specs.declared.closed.ClosedRoute.{ClosedRoute}
use Rattle.vrp_routes.specs.declared.label.Label.{Label}
use Rattle.vrp_routes.specs.declared.plan_range.PlanRange.{PlanRange}

-- the labels are those of one length, of a customer at least, and are numbered from a start on
abbrev pub CanClose : {X : Type 0} → SettingOf X → ℕ → List (Label X) → Type 0
CanClose s start labels = (k : ℕ) × (stops : List (List ℕ)) × IsLevel s k (drop start stops) labels × (1 ≤ k)

-- a route with the stops of its label
abbrev pub route_by : List (List ℕ) → ClosedRoute → RouteOf
route_by stops route = record { stops = slice_index_or stops route.label []; set = route.set; load = route.load; cost = route.cost }

-- so it is, where these are its stops
abbrev pub route_with : List ℕ → ClosedRoute → RouteOf
route_with stops route = record { stops = stops; set = route.set; load = route.load; cost = route.cost }

abbrev pub no_closed : ClosedRoute
no_closed = record { set = 0; load = 0; cost = 0; label = 0 }

abbrev pub closed_at : ClosedLevel → ℕ → ClosedRoute
closed_at closed at = slice_index_or closed.routes.items at no_closed

-- which route has a set
abbrev pub place_of : ClosedLevel → ℕ → Option ℕ
place_of closed set = get (λ one other. one == other) closed.by_set set

-- what has a set is a route of that set
abbrev pub HasPlaces : ClosedLevel → Type 0
HasPlaces closed = (set at : ℕ) → place_of closed set ≡ Some at → (at < length closed.routes.items) × ((closed_at closed at).set ≡ set)

-- a route was offered: left out where one of its set costs no more, put in the place of one that costs more, or added
pub record IsLeftOut (old : ClosedLevel) (route : ClosedRoute) (new : ClosedLevel) : Type 0 where
  pub same : new ≡ old
  pub at : ℕ
  pub there : place_of old route.set ≡ Some at
  pub no_costlier : (closed_at old at).cost ≤ route.cost

pub record IsReplaced (old : ClosedLevel) (route : ClosedRoute) (new : ClosedLevel) : Type 0 where
  pub at : ℕ
  pub there : place_of old route.set ≡ Some at
  pub cheaper : route.cost < (closed_at old at).cost
  pub routes : new.routes.items ≡ slice_set old.routes.items at route
  pub places : (set : ℕ) → place_of new set ≡ place_of old set

pub record IsAdded (old : ClosedLevel) (route : ClosedRoute) (new : ClosedLevel) : Type 0 where
  pub absent : place_of old route.set ≡ None
  pub routes : new.routes.items ≡ old.routes.items ++ route ∷ []
  pub places : (set : ℕ) → place_of new set ≡ (if route.set == set then Some (length old.routes.items) else place_of old set)

abbrev pub TakesRoute : ClosedLevel → ClosedRoute → ClosedLevel → Type 0
TakesRoute old route new = IsLeftOut old route new ⊎ (IsReplaced old route new ⊎ IsAdded old route new)

-- the routes with this many stops
pub record AreClosed (p : Problem) (range : PlanRange) (k : ℕ) (stops : List (List ℕ)) (routes : List ClosedRoute) : Type 0 where
  pub each : All (λ route. IsListed p (route_by stops route) × (route.label < length stops)) routes
  pub every : (xs : List ℕ) → length xs ≡ k → IsUsefulIn p range xs → (route : ClosedRoute) × Contains routes route × (slice_index_or stops route.label [] ≡ xs)

-- which share closes a set
abbrev pub closing_share : ℕ → ℕ
closing_share set = folded_of set * 6364136223846793005 % 2 ^ 64 / 2 ^ 61

abbrev pub is_closed_in : ℕ → ℕ → Bool
is_closed_in share set = closing_share set == share

-- the routes with this many stops whose sets pass the test
pub record AreClosedIn (p : Problem) (range : PlanRange) (k : ℕ) (mine : ℕ → Bool) (stops : List (List ℕ)) (routes : List ClosedRoute) : Type 0 where
  pub each : All (λ route. IsListed p (route_by stops route) × (route.label < length stops)) routes
  pub every : (xs : List ℕ) → length xs ≡ k → mine (set_of xs) ≡ true → IsUsefulIn p range xs → (route : ClosedRoute) × Contains routes route × (slice_index_or stops route.label [] ≡ xs)

-- these are the routes of the shares from the first one on
abbrev pub AreClosedParts : Problem → PlanRange → ℕ → List (List ℕ) → List (Vec ClosedRoute Global) → Type 0
AreClosedParts p range k stops parts = (i : ℕ) (d : Vec ClosedRoute Global) → i < length parts → AreClosedIn p range k (is_closed_in i) stops (slice_index_or parts i d).items
