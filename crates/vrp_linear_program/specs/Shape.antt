-- What a contract sees of a linear program: the number of its rows, and the names of its columns in order.
use Rattle.std.specs.Prelude.{ℕ, List}

pub record Shape : Type 0 where
  pub rows : ℕ
  pub names : List ℕ
