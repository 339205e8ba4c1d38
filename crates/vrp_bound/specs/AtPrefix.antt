-- The bounds at a prefix: from its last symbol, with the load of its open route, for its unserved customers.
use Rattle.std.specs.Prelude.{ℕ, ◌+◌, Option, List}
use Rattle.vrp_model.specs.Prefix.{open_load, routes_left}
use Rattle.vrp_model.specs.Problem.{Problem}
use Rattle.vrp_model.specs.Route.{load_of}
use Rattle.vrp_model.specs.Word.{last_symbol, unserved_in, word_cost}
use Rattle.vrp_bound.specs.Bound.{IsLowerBound}
use Rattle.vrp_bound.specs.Capacity.{CanCarry, IsCapacityBound}
use Rattle.vrp_bound.specs.NgWalks.{IsNgRelaxed}
use Rattle.vrp_bound.specs.Tables.{IsBound}
use Rattle.vrp_bound.specs.Walk.{IsRelaxed, relaxed_cost}

-- the total demand of a prefix's unserved customers
abbrev pub rest_at : Problem → List ℕ → ℕ
rest_at p prefix = load_of p (unserved_in p prefix)

-- a walk home and tours that carry the rest of a prefix
abbrev pub Completes : Problem → List ℕ → List ℕ → List ℕ → List (List ℕ) → Type 0
Completes p among prefix home tours = IsRelaxed p among (last_symbol prefix) (open_load p prefix) (rest_at p prefix) home tours

-- a walk home and tours, all of them ng-walks, that carry the rest of a prefix
abbrev pub CompletesByNgWalks : Problem → (ℕ → List ℕ) → List ℕ → List ℕ → List ℕ → List (List ℕ) → Type 0
CompletesByNgWalks p near among prefix home tours =
    IsNgRelaxed p near among (last_symbol prefix) (open_load p prefix) (rest_at p prefix) home tours

-- the cost along a prefix, plus a walk home and tours
abbrev pub completed_cost : Problem → List ℕ → List ℕ → List (List ℕ) → ℕ
completed_cost p prefix home tours = word_cost p prefix + relaxed_cost p (last_symbol prefix) home tours

-- the answer at a prefix of tables over some customers
abbrev pub IsBoundAt : Problem → List ℕ → List ℕ → Option ℕ → Type 0
IsBoundAt p among prefix answer = IsBound p among (last_symbol prefix) (open_load p prefix) (rest_at p prefix) answer

abbrev pub IsCapacityBoundAt : Problem → List ℕ → ℕ → ℕ → Type 0
IsCapacityBoundAt p prefix inbound_sum bound =
    IsCapacityBound p (last_symbol prefix) (open_load p prefix) inbound_sum (rest_at p prefix) bound

-- the lower bound at a prefix, with the trucks that it leaves
abbrev pub IsLowerBoundAt : Problem → List ℕ → List ℕ → ℕ → Option ℕ → Type 0
IsLowerBoundAt p among prefix inbound_sum answer =
    IsLowerBound p among (last_symbol prefix) (open_load p prefix) inbound_sum (rest_at p prefix) (routes_left p prefix) answer

-- the trucks that a prefix leaves can carry its rest
abbrev pub CanCarryAt : Problem → List ℕ → Type 0
CanCarryAt p prefix = CanCarry p (last_symbol prefix) (open_load p prefix) (rest_at p prefix) (routes_left p prefix)
