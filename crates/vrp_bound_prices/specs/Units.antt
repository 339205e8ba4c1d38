-- Demands and capacity in a coarser unit.
use Rattle.std.specs.Prelude.{◌≡◌, ℕ, ◌+◌, ◌/◌, ◌≤◌, max, nat_lt, if◌then◌else◌}
use Rattle.std.specs.List.{All, sum_by}
use Rattle.vrp_model.specs.Problem.{Problem, customers, demand_of, place_count}

-- the whole units of an amount, at least one
abbrev pub units_of : ℕ → ℕ → ℕ
units_of unit amount = max 1 (amount / unit)

-- 1 for a customer who demands less than a unit
abbrev pub light_one : Problem → ℕ → ℕ → ℕ
light_one p unit customer = if nat_lt (demand_of p customer) unit then 1 else 0

-- the number of customers who demand less than a unit
abbrev pub light_count : Problem → ℕ → ℕ
light_count p unit = sum_by (light_one p unit) (customers p)

-- The capacity is rounded down, plus one for each customer who demands less than a unit, since each of them counts as a whole
-- one.
abbrev pub rounded_capacity : Problem → ℕ → ℕ
rounded_capacity p unit = p.capacity / unit + light_count p unit

-- The same places and trucks with demands in units: each customer's demand is rounded down, and is at least 1.
pub record IsRounded (p q : Problem) (unit : ℕ) : Type 0 where
  pub some : 1 ≤ unit
  pub same_places : place_count q ≡ place_count p
  pub empty_depot : demand_of q 0 ≡ 0
  pub demands : All (λ customer. demand_of q customer ≡ units_of unit (demand_of p customer)) (customers p)
  pub capacity : q.capacity ≡ rounded_capacity p unit
  pub same_trucks : q.trucks ≡ p.trucks
