-- The cells of the ng-walks over the customers of a scope.
use Rattle.std.specs.Prelude.{ℕ, ◌*◌, ◌<◌, List, slice_index}
use Rattle.vrp_model.specs.Near.{near_in}
use Rattle.vrp_model.specs.Problem.{place_count}
use Rattle.vrp_bound.specs.declared.ng_scope.NgScope.{NgScope}
use Rattle.vrp_bound.specs.Inner.CompletionCells.{AreWalks, IsLeastCell}
use Rattle.vrp_bound.specs.Inner.NgCells.{AreNgWalks, AreNgWalksSoFar, HasNgWalk}
use Rattle.vrp_bound.specs.Inner.Scaled.{scaled}

-- the number of places of the instance
abbrev pub place_count_of : NgScope → ℕ
place_count_of scope = place_count scope.units.instance.now

-- the number of cells of each load
abbrev pub load_cells : NgScope → ℕ
load_cells scope = place_count_of scope * scope.masks

-- cells by load, then by place: the least over all ng-sets
abbrev pub AreLeastOverNgSets : NgScope → List ℕ → Type 0
AreLeastOverNgSets scope cells =
    AreWalks (scaled scope.units) (near_in scope.ng_sets.now) scope.units.customers.now cells

-- cells by load, then by place, then by ng-set
abbrev pub AreNgWalksOver : NgScope → List ℕ → Type 0
AreNgWalksOver scope cells =
    AreNgWalks (scaled scope.units) (near_in scope.ng_sets.now) scope.units.customers.now scope.masks cells

abbrev pub AreNgWalksOverSoFar : NgScope → List ℕ → Type 0
AreNgWalksOverSoFar scope cells =
    AreNgWalksSoFar (scaled scope.units) (near_in scope.ng_sets.now) scope.units.customers.now scope.masks cells

-- a walk from the place with this load and this ng-set there has this cost
abbrev pub HasNgWalkOver : NgScope → ℕ → ℕ → ℕ → ℕ → Type 0
HasNgWalkOver scope at load ng_set cost =
    HasNgWalk (scaled scope.units) (near_in scope.ng_sets.now) scope.units.customers.now at load ng_set cost

-- the least walks from a place with this load, by the ng-set there
abbrev pub AreLeastNgWalks : NgScope → ℕ → ℕ → List ℕ → Type 0
AreLeastNgWalks scope at load row =
    (m : ℕ) → m < scope.masks → IsLeastCell (HasNgWalkOver scope at load m) (slice_index row m)
