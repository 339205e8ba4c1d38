-- The tables over some customers of a problem, and their answers.
use Rattle.std.specs.Prelude.{◌≡◌, ℕ, ◌+◌, ◌*◌, ◌≤◌, min, Option, Some, MatchOption, List, length}
use Rattle.std.specs.List.{All}
use Rattle.vrp_model.specs.Problem.{Problem, demand_of}
use Rattle.vrp_model.specs.Route.{load_of}
use Rattle.vrp_bound.specs.Walk.{IsLeastRelaxed, NoneRelaxed}

pub record TablesOf : Type 0 where
  pub problem : Problem
  pub among : List ℕ

abbrev pub tables_over : Problem → List ℕ → TablesOf
tables_over problem among = record { problem = problem; among = among }

-- the lesser of these customers' total demand and the capacity
abbrev pub room_of : Problem → List ℕ → ℕ
room_of p among = min p.capacity (load_of p among)

-- each of these customers has a demand
abbrev pub AllDemand : Problem → List ℕ → Type 0
AllDemand p among = All (λ customer. 1 ≤ demand_of p customer) among

-- whether tables are made if the table of the walks may take this many steps to fill: each customer has a demand, and the tables
-- are small enough
pub record AreMadeWithin (most_steps : ℕ) (p : Problem) (among : List ℕ) : Type 0 where
  pub demands : AllDemand p among
  pub walks : (room_of p among + 1) * length among * length among ≤ most_steps
  pub tours : load_of p among * room_of p among ≤ 200000000

-- whether tables are made: each customer has a demand, and the tables are of a moderate size
abbrev pub AreMade : Problem → List ℕ → Type 0
AreMade = AreMadeWithin 200000000

-- The answer of the tables: the least cost of a relaxed completion, or None if there is none. If no tables are made, the
-- answer is 0, which is no more than any cost.
pub record IsBound (p : Problem) (among : List ℕ) (at load rest : ℕ) (answer : Option ℕ) : Type 0 where
  pub made : AreMade p among → MatchOption answer (NoneRelaxed p among at load rest) (IsLeastRelaxed p among at load rest)
  pub none_made : (AreMade p among → ⊥) → answer ≡ Some 0
