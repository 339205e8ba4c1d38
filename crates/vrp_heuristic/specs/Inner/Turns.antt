-- Whom a turn names.
use Rattle.std.specs.Prelude.{ℕ, ◌<◌}
use Rattle.vrp_heuristic.specs.declared.taken.Turn.{Turn}

-- a turn is that of one of this many places
pub record IsTurn (places : ℕ) (turn : Turn) : Type 0 where
  pub within : turn.customer < places
