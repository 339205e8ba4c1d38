-- A register and its callers, as contracts see them.
use Rattle.std.specs.Prelude.{◌≡◌, ℕ, List, length, map}
use Rattle.std.specs.List.{All, range_with_len, sum_by}
use Rattle.atomic_table.specs.Seated.{TableId}
use Rattle.vrp_sharing.specs.Costs.{newcomer}
use Rattle.vrp_sharing.specs.declared.view.Known.{Known}

pub record RegisterState : Type 0 where
  -- the number of callers
  pub callers : ℕ
  -- the cost of its opening plan, NO_COST if it opened without one
  pub opening : ℕ
  -- the register's identity
  pub table : TableId

pub record CallerState : Type 0 where
  -- the caller's register
  pub table : TableId
  -- its number, the costs it has seen, and its own accepted offers
  pub known : Known

-- the caller belongs to the register
abbrev pub IsCallerOf : RegisterState → CallerState → Type 0
IsCallerOf register caller = caller.table ≡ register.table

-- these are all callers of the register
abbrev pub AreCallersOf : RegisterState → List CallerState → Type 0
AreCallersOf register callers = (length callers ≡ register.callers) × All (IsCallerOf register) callers

-- callers that have seen nothing and made no offer, numbered from 0
abbrev pub newcomers : TableId → ℕ → ℕ → List CallerState
newcomers table opening count = map (λ number. record { table = table; known = newcomer number opening }) (range_with_len 0 count)

-- the knowledge of each of these callers
abbrev pub known_of : List CallerState → List Known
known_of callers = map (λ c. c.known) callers

-- how many offers of these callers were accepted
abbrev pub accepted_of : List CallerState → ℕ
accepted_of callers = sum_by (λ c. length c.known.mine) callers
