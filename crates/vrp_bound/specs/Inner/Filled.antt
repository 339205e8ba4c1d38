-- The contents of the tables, besides their customers.
use Rattle.std.specs.Prelude.{◌≡◌, ℕ, Option, MatchOption, IfSome, List}
use Rattle.std.specs.List.{All, Contains}
use Rattle.std.specs.List.Sorted.{IsStrictlyIncreasing}
use Rattle.vrp_model.specs.Problem.{Problem, customers}
use Rattle.vrp_bound.specs.declared.completions.CompletionCells.{CompletionCells}
use Rattle.vrp_bound.specs.declared.completions.Completions.{Completions}
use Rattle.vrp_bound.specs.declared.scope.Scope.{Scope}
use Rattle.vrp_bound.specs.Inner.CompletionCells.{IsCompletionTable, AreTours, AreWalks, HasRelaxed, IsLeastCell}
use Rattle.vrp_bound.specs.Inner.Scope.{IsScope}
use Rattle.vrp_bound.specs.Inner.Units.{IsUnit, in_units}
use Rattle.vrp_bound.specs.NgWalks.{nothing_near}
use Rattle.vrp_bound.specs.Tables.{AreMade, IsBound, TablesOf, room_of, tables_over}

pub record AreCells (p : Problem) (near : ℕ → List ℕ) (among : List ℕ) (cells : CompletionCells) : Type 0 where
  pub scope : IsScope p among
  pub unit : IsUnit p among cells.unit
  pub counted : cells.quotients.unit ≡ cells.unit
  -- walks in units
  pub walks : AreWalks (in_units cells.unit p) near among cells.walks.items
  pub tours : AreTours (in_units cells.unit p) near among cells.tours.items
  pub room : cells.room ≡ room_of (in_units cells.unit p) among
  pub completion_table : IfSome cells.completion_table (λ completion_table. IsCompletionTable (in_units cells.unit p) near among completion_table.items)

-- cells of tables that are made, of walks that remember only their next stop
pub record AreCellsMade (p : Problem) (among : List ℕ) (cells : CompletionCells) : Type 0 where
  pub made : AreMade p among
  pub are_cells : AreCells p nothing_near among cells

-- the cells over the customers of a scope
abbrev pub AreCellsOver : Scope → (ℕ → List ℕ) → CompletionCells → Type 0
AreCellsOver scope near cells = AreCells scope.instance.now near scope.customers.now cells

-- the least cost of carrying the rest, over the customers of a scope
abbrev pub IsLeastOver : Scope → (ℕ → List ℕ) → ℕ → ℕ → ℕ → ℕ → Type 0
IsLeastOver scope near at load rest cell =
    IsLeastCell (HasRelaxed scope.instance.now near scope.customers.now at load rest) cell

pub record AreFilled (p : Problem) (among : List ℕ) (cells : Option CompletionCells) : Type 0 where
  pub rising : IsStrictlyIncreasing among
  pub known : All (Contains (customers p)) among
  -- there are cells exactly if tables are made
  pub filled : MatchOption cells (AreMade p among → ⊥) (AreCellsMade p among)

-- the contents of completions
abbrev pub AreHeld : Completions → Type 0
AreHeld held = AreFilled held.instance.now held.customers.items held.cells

-- the answer of completions
abbrev pub IsHeldBound : Completions → ℕ → ℕ → ℕ → Option ℕ → Type 0
IsHeldBound held at load rest answer = IsBound held.instance.now held.customers.items at load rest answer

-- the tables of completions
abbrev pub tables_held : Completions → TablesOf
tables_held held = tables_over held.instance.now held.customers.items
