-- The tables while they are filled, and the look-up of a cell.
use Rattle.std.proofs.Common.{◌≡◌, ℕ, ◌+◌, ◌*◌, ◌/◌, ◌%◌, ◌<◌, ◌≤◌, List, [], ◌∷◌, ◌++◌, length, get_or, sym, ◌∙◌, ap, subst, arith}
use Rattle.std.proofs.lemmas.Nat.{div-mul-add, mod-mul-add}
use Rattle.vrp_model.specs.Problem.{Problem, place_count}
use Rattle.vrp_bound.specs.Inner.CompletionCells.{AreToursSoFar, AreWalksSoFar, HasTours, HasWalk, IsLeastCell, mark}
use Rattle.vrp_model.proofs.BoundedLists.{bounded_push}
use Rattle.vrp_model.proofs.PushedCells.{each_push}

-- no cell yet
pub no_walks : (p : Problem) (near : ℕ → List ℕ) (among : List ℕ) → AreWalksSoFar p near among []
no_walks p near among = record { each = λ k within. absurd (omega (arith, within)); within = λ k. omega arith }

-- one cell more
pub more_walks : (p : Problem) (near : ℕ → List ℕ) (among cells : List ℕ) (cell load at : ℕ) → length cells ≡ load * place_count p + at → at < place_count p → AreWalksSoFar p near among cells → IsLeastCell (HasWalk p near among at load) cell → cell ≤ mark → AreWalksSoFar p near among (cells ++ cell ∷ [])
more_walks p near among cells cell load at next inside so_far least small =
    let row : length cells / place_count p ≡ load = ap (λ n. n / place_count p) next ∙ div-mul-add load (place_count p) at inside in
    let column : length cells % place_count p ≡ at = ap (λ n. n % place_count p) next ∙ mod-mul-add load (place_count p) at inside in
    let here = subst (λ n. IsLeastCell (HasWalk p near among (length cells % place_count p) n) cell) (sym row) (subst (λ n. IsLeastCell (HasWalk p near among n load) cell) (sym column) least) in
    record {
      each = each_push (λ k cost. IsLeastCell (HasWalk p near among (k % place_count p) (k / place_count p)) cost) cells cell so_far.each here;
      within = bounded_push cells cell mark so_far.within small;
    }

pub walk_cell : (p : Problem) (near : ℕ → List ℕ) (among cells : List ℕ) (k load at : ℕ) → k ≡ load * place_count p + at → at < place_count p → k < length cells → AreWalksSoFar p near among cells → IsLeastCell (HasWalk p near among at load) (get_or cells k 0)
walk_cell p near among cells k load at is inside within so_far =
    let row : k / place_count p ≡ load = ap (λ n. n / place_count p) is ∙ div-mul-add load (place_count p) at inside in
    let column : k % place_count p ≡ at = ap (λ n. n % place_count p) is ∙ mod-mul-add load (place_count p) at inside in
    subst (λ n. IsLeastCell (HasWalk p near among n load) (get_or cells k 0)) column (subst (λ n. IsLeastCell (HasWalk p near among (k % place_count p) n) (get_or cells k 0)) row (so_far.each k within))

pub no_tours : (p : Problem) (near : ℕ → List ℕ) (among : List ℕ) → AreToursSoFar p near among []
no_tours p near among = record { each = λ k within. absurd (omega (arith, within)); within = λ k. omega arith }

pub more_tours : (p : Problem) (near : ℕ → List ℕ) (among cells : List ℕ) (cell : ℕ) → AreToursSoFar p near among cells → IsLeastCell (HasTours p near among (length cells)) cell → cell ≤ mark → AreToursSoFar p near among (cells ++ cell ∷ [])
more_tours p near among cells cell so_far least small = record {
  each = each_push (λ rest cost. IsLeastCell (HasTours p near among rest) cost) cells cell so_far.each least;
  within = bounded_push cells cell mark so_far.within small;
}
