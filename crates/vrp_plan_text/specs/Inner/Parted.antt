-- The parts of a list before and behind the first element that passes a test.
use Rattle.std.specs.Prelude.{◌≡◌, ℕ, ◌<◌, Bool, List, length}
use Rattle.std.specs.List.{after_first, before_first, position_or_len}

-- an element passes; these are the parts before and behind the first that does
pub record ArePartedAt (test : ℕ → Bool) (text before behind : List ℕ) : Type 0 where
  pub somewhere : position_or_len test text < length text
  pub stands_before : before ≡ before_first test text
  pub stands_behind : behind ≡ after_first test text
