-- The two places of a joint.
use Rattle.std.specs.Prelude.{ℕ, ◌<◌}
use Rattle.vrp_heuristic.specs.declared.joint.Joint.{Joint}

-- a joint is between two of this many places
pub record IsBetween (places : ℕ) (joint : Joint) : Type 0 where
  pub from : joint.from < places
  pub to : joint.to < places
