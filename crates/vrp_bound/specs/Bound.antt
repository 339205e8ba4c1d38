-- The greater of the two bounds.
use Rattle.std.specs.Prelude.{◌≡◌, ℕ, max, List, Option, None}
use Rattle.std.specs.Option.{option_map}
use Rattle.vrp_model.specs.Problem.{Problem}
use Rattle.vrp_bound.specs.Capacity.{CanCarry, IsCapacityBound}
use Rattle.vrp_bound.specs.Tables.{IsBound}

-- A lower bound on what is still to pay: the greater of the least relaxed completion over some customers and the capacity
-- bound. None if there is no relaxed completion.
pub record IsGreater (p : Problem) (among : List ℕ) (at load inbound_sum rest : ℕ) (answer : Option ℕ) : Type 0 where
  pub relaxed : Option ℕ
  pub is_bound : IsBound p among at load rest relaxed
  pub capacity : ℕ
  pub is_capacity : IsCapacityBound p at load inbound_sum rest capacity
  pub greater : answer ≡ option_map (λ least. max least capacity) relaxed

-- A lower bound on what is still to pay when this many routes may still be opened: the greater of the two bounds. None also
-- if the trucks that are left can't carry the rest.
pub record IsLowerBound (p : Problem) (among : List ℕ) (at load inbound_sum rest : ℕ) (left answer : Option ℕ) : Type 0 where
  pub enough : CanCarry p at load rest left → IsGreater p among at load inbound_sum rest answer
  pub too_few : (CanCarry p at load rest left → ⊥) → answer ≡ None
