-- Lists of numbers that are all at most a bound.
use Rattle.std.proofs.Common.{ℕ, ◌≤◌, List, ◌∷◌, [], ◌++◌, slice_index, arith}
use Rattle.std.proofs.lemmas.Grind.{common_steps}

-- what bounds a list's numbers and one more bounds them all
pub bounded_push : (xs : List ℕ) (x bound : ℕ) → ((k : ℕ) → slice_index xs k ≤ bound) → x ≤ bound → (k : ℕ) → slice_index (xs ++ x ∷ []) k ≤ bound
bounded_push xs x bound bounded small k = grind (arith, common_steps, bounded k)
