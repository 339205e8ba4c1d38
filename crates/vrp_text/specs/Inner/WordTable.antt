-- Tables of words.
use Rattle.std.specs.Prelude.{ℕ, List, map}
use Rattle.std.specs.Borrow.{Bor}

-- the words of a table, each with its value
abbrev pub words_of : {X : Type 0} → List (Bor (List ℕ) × X) → List (List ℕ × X)
words_of table = map (λ entry. (entry.0.now, entry.1)) table
