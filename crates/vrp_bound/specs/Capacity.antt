-- The capacity bound: a truck enters each unserved customer, and enough trucks drive home.
use Rattle.std.specs.Prelude.{◌≡◌, ℕ, ◌+◌, ◌-◌, ◌*◌, ◌≤◌, ◌==◌, if◌then◌else◌, Option, List}
use Rattle.std.specs.List.{All, sum_by}
use Rattle.std.specs.Option.{ForSome}
use Rattle.vrp_model.specs.LeastArc.{IsLeastHome, IsLeastIn}
use Rattle.vrp_model.specs.Problem.{Problem}
use Rattle.vrp_model.specs.Word.{unserved_in}

-- the sum of the least arcs into the word's unserved customers
pub record IsInboundSumOf (p : Problem) (word : List ℕ) (inbound_sum : ℕ) : Type 0 where
  pub least_in : ℕ → ℕ
  pub each : All (λ customer. IsLeastIn p customer (least_in customer)) (unserved_in p word)
  pub whole : inbound_sum ≡ sum_by least_in (unserved_in p word)

-- the free room on the current truck; none at the depot
abbrev pub free_room : Problem → ℕ → ℕ → ℕ
free_room p at load = if at == 0 then 0 else p.capacity - load

-- The current truck and those that are left can carry the rest. Without a limit on trucks this always holds.
abbrev pub CanCarry : Problem → ℕ → ℕ → ℕ → Option ℕ → Type 0
CanCarry p at load rest left = ForSome left (λ trucks. rest ≤ free_room p at load + trucks * p.capacity)

-- the least number of trucks that carry an amount: this many do, and no fewer
pub record IsTrucks (capacity amount trucks : ℕ) : Type 0 where
  pub enough : amount ≤ trucks * capacity
  pub least : (fewer : ℕ) → amount ≤ fewer * capacity → trucks ≤ fewer

-- the number of trucks that must still drive home: the current one, and those for the rest that it can't take
pub record IsReturns (p : Problem) (at load rest returns : ℕ) : Type 0 where
  pub trucks : ℕ
  pub carry : IsTrucks p.capacity (rest - free_room p at load) trucks
  pub all : returns ≡ trucks + (if at == 0 then 0 else 1)

-- the arcs into the unserved customers, plus the arcs home
pub record IsCapacityBound (p : Problem) (at load inbound_sum rest bound : ℕ) : Type 0 where
  pub returns : ℕ
  pub count : IsReturns p at load rest returns
  pub home : ℕ
  pub least_home : IsLeastHome p home
  pub is : bound ≡ inbound_sum + returns * home
