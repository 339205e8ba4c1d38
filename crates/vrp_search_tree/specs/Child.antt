-- The children of a prefix by rising symbol.
use Rattle.std.specs.Prelude.{◌≡◌, ◌↔◌, ℕ, ◌+◌, ◌≤◌, ◌<◌, Option, MatchOption, List, [], ◌∷◌, ◌++◌, length, map}
use Rattle.std.specs.List.{Contains}
use Rattle.std.specs.List.Sorted.{IsStrictlyIncreasing}
use Rattle.vrp_model.specs.Problem.{HasTrucks, Problem}
use Rattle.vrp_model.specs.Word.{IsPrefix, routes_of}
use Rattle.vrp_search_tree.specs.Partial.{PartialPlan}

-- no symbol from this one on makes a child
abbrev pub NoChildFrom : Problem → List ℕ → ℕ → Type 0
NoChildFrom p prefix from = (k : ℕ) → from ≤ k → IsPrefix p (prefix ++ k ∷ []) → ⊥

-- the first symbol from this one on that makes a child
pub record IsNextChild (p : Problem) (prefix : List ℕ) (from symbol : ℕ) : Type 0 where
  pub within : from ≤ symbol
  pub child : IsPrefix p (prefix ++ symbol ∷ [])
  pub first : (k : ℕ) → from ≤ k → k < symbol → IsPrefix p (prefix ++ k ∷ []) → ⊥

-- the first symbol from this one on that makes a child of a partial plan; None: there is none
abbrev pub TellsNextChild : PartialPlan → ℕ → Option ℕ → Type 0
TellsNextChild at from answer = MatchOption answer (NoChildFrom at.problem at.word from) (IsNextChild at.problem at.word from)

-- there is a truck for one route more
abbrev pub HasTruckForOneMore : PartialPlan → Type 0
HasTruckForOneMore at = HasTrucks at.problem (length (routes_of at.word) + 1)

-- all children of a prefix, by rising symbol
pub record AreChildren (p : Problem) (prefix : List ℕ) (children : List (List ℕ)) : Type 0 where
  pub symbols : List ℕ
  pub rising : IsStrictlyIncreasing symbols
  pub each : (k : ℕ) → Contains symbols k ↔ IsPrefix p (prefix ++ k ∷ [])
  pub are : children ≡ map (λ k. prefix ++ k ∷ []) symbols
