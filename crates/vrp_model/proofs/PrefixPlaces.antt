-- The symbols of a prefix are places of the problem.
use Rattle.std.proofs.Common.{ℕ, zero, suc, ◌<◌, List, [], ◌∷◌, ◌++◌, subst, arith}
use Rattle.std.specs.List.{All, Contains}
use Rattle.vrp_model.specs.Problem.{IsProblem, Problem, customers, place_count}
use Rattle.vrp_model.specs.Word.{IsPrefix, last_symbol, served_in}
use Rattle.vrp_model.proofs.CustomerPlaces.{customer_below}
use Rattle.vrp_model.proofs.PrefixWithSymbol.{added_is_customer}
use Rattle.vrp_model.proofs.Words.{last_behind, last_is, serves_customer}

-- the symbol that a prefix ends with is a place
pub symbol_is_place : (p : Problem) (word : List ℕ) (k : ℕ) → IsProblem p → IsPrefix p (word ++ k ∷ []) → k < place_count p
symbol_is_place p word zero problem prefix = omega (arith, problem.some_places)
symbol_is_place p word (suc k) problem prefix = customer_below p (suc k) (added_is_customer p word (suc k) (omega arith) prefix)

last_below : (p : Problem) (before : ℕ) (word : List ℕ) → before < place_count p → 0 < place_count p → All (Contains (customers p)) (served_in word) → last_behind before word < place_count p
last_below p before [] below some known = below
last_below p before (zero ∷ word) below some known = last_below p 0 word some some known
last_below p before (suc k ∷ word) below some known =
    let here = subst (All (Contains (customers p))) (serves_customer k word) known in
    last_below p (suc k) word (customer_below p (suc k) (here 0 (suc k) (omega arith))) some (λ i d lt. here (suc i) d (omega (arith, lt)))

-- so is the last symbol of a prefix, 0 where it is empty
pub last_is_place : (p : Problem) (word : List ℕ) → IsProblem p → IsPrefix p word → last_symbol word < place_count p
last_is_place p word problem prefix = rw (last_is word) (last_below p 0 word (omega (arith, problem.some_places)) (omega (arith, problem.some_places)) prefix.known)
