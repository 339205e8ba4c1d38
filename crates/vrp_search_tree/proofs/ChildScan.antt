-- Which symbols make no child, told apart by what is kept beside a word.
use Rattle.std.proofs.Common.{◌≡◌, ℕ, ◌+◌, ◌≤◌, ◌<◌, Bool, List, [], ◌∷◌, ◌++◌, length, inl, inr, arith}
use Rattle.vrp_model.specs.Problem.{HasTrucks, Problem, demand_of, place_count}
use Rattle.vrp_model.specs.Word.{IsPrefix, last_symbol, routes_of}
use Rattle.vrp_model.proofs.ChildCases.{cases_of_child}
use Rattle.vrp_model.proofs.PrefixPlaces.{symbol_is_place}
use Rattle.vrp_model.proofs.LastRoute.{load_at_customer}
use Rattle.vrp_search_tree.specs.Inner.Tallied.{AreTallied}
use Rattle.vrp_search_tree.specs.declared.tally.Tally.{Tally}

-- a child where no route is open is above the last route's first customer, and there is a truck for it
pub opens_route : (p : Problem) (word : List ℕ) (k : ℕ) (served : List Bool) (before : List Tally) (t : Tally) → AreTallied p word served before t → last_symbol word ≡ 0 → IsPrefix p (word ++ k ∷ [])
    → (t.first_customer < k) × HasTrucks p (length (routes_of word) + 1)
opens_route p word k served before t are at_depot after = elim ((cases_of_child p word k are.problem are.prefix).0 after) [
  | inl depot ↦ absurd (omega (arith, depot.1, at_depot))
  | inr (inl inside) ↦ absurd (omega (arith, inside.1, at_depot))
  | inr (inr behind) ↦ (omega (arith, behind.2, are.now.first_customer), behind.3)
]

-- a customer whom the open route takes in fits on its truck
pub takes_in : (p : Problem) (word : List ℕ) (k : ℕ) (served : List Bool) (before : List Tally) (t : Tally) → AreTallied p word served before t → 0 < last_symbol word → 0 < k → IsPrefix p (word ++ k ∷ [])
    → t.load + demand_of p k ≤ p.capacity
takes_in p word k served before t are is_open some after = elim ((cases_of_child p word k are.problem are.prefix).0 after) [
  | inl depot ↦ absurd (omega (arith, depot.0, some))
  | inr (inl inside) ↦ omega (arith, inside.2, are.now.load, load_at_customer p word is_open)
  | inr (inr behind) ↦ absurd (omega (arith, behind.1, is_open))
]

-- no symbol behind the last place makes a child
pub none_behind : (p : Problem) (word : List ℕ) (k end : ℕ) (served : List Bool) (before : List Tally) (t : Tally) → AreTallied p word served before t → place_count p ≤ end → end ≤ k → IsPrefix p (word ++ k ∷ []) → ⊥
none_behind p word k end served before t are all behind after = omega (arith, symbol_is_place p word k are.problem after, all, behind)
