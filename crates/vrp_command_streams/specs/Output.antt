-- The part of a report that a writer has taken.
use Rattle.std.specs.Prelude.{ℕ, Option, List}
use Rattle.std.specs.Io.{StartsWith}
use Rattle.std.specs.Io.KnownBytes.{Appends}

-- A beginning of the report was written: none of it, some of it or all of it. Old and new are the known bytes that the writer
-- holds before and after.
pub record AppendsPart (old new : Option (List ℕ)) (report : List ℕ) : Type 0 where
  pub part : List ℕ
  pub begins : StartsWith report part
  pub grown : Appends old new part
