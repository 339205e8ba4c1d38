-- A problem with its demands counted in a unit.
use Rattle.std.specs.Prelude.{ℕ, ◌≤◌, ◌<◌, ◌/◌, map, List}
use Rattle.std.specs.Int.{◌∣◌}
use Rattle.std.specs.List.{All, Contains}
use Rattle.vrp_model.specs.Problem.{Problem, demand_of}

-- a unit that divides the demand of each of these customers
pub record IsUnit (p : Problem) (among : List ℕ) (unit : ℕ) : Type 0 where
  pub some : 1 ≤ unit
  pub whole : All (λ customer. unit ∣ demand_of p customer) among

-- no greater number is such a unit, if any customer has a demand
pub record IsGreatestUnit (p : Problem) (among : List ℕ) (unit : ℕ) : Type 0 where
  pub is_unit : IsUnit p among unit
  pub greatest : (other customer : ℕ) → IsUnit p among other → Contains among customer → 0 < demand_of p customer → other ≤ unit

-- the problem with its demands in units, and the capacity in whole units
abbrev pub in_units : ℕ → Problem → Problem
in_units unit p = record p { demands = map (λ demand. demand / unit) p.demands; capacity = p.capacity / unit }
