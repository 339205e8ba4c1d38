-- The bytes of a reader that are read.
use Rattle.std.specs.Prelude.{ℕ, ◌+◌, ◌≤◌, ◌<◌, Option, List, length}
use Rattle.std.specs.Io.KnownBytes.{Consumes, IsAtEnd}
use Rattle.vrp_text.specs.declared.lexer.limits.TheConstants.{MAX_BYTES}

-- All bytes that a reader has left, or, if it has more than a file may have, one byte more than that. Old and new are the
-- known bytes that it has left before and after.
pub record IsInput (old new : Option (List ℕ)) (bytes : List ℕ) : Type 0 where
  pub taken : Consumes old new bytes
  pub bounded : length bytes ≤ MAX_BYTES + 1
  pub whole : length bytes < MAX_BYTES + 1 → IsAtEnd new

-- At most this many of the bytes that a reader has left.
pub record TakesAtMost (most : ℕ) (old new : Option (List ℕ)) : Type 0 where
  pub bytes : List ℕ
  pub taken : Consumes old new bytes
  pub bounded : length bytes ≤ most
