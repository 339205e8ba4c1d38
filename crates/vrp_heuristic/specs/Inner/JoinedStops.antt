-- What a stop of a route names.
use Rattle.std.specs.Prelude.{ℕ, ◌<◌, ◌≤◌}
use Rattle.vrp_model.specs.declared.limits.TheConstants.{MAX_CAPACITY}
use Rattle.vrp_heuristic.specs.declared.joined_routes.JoinedStop.{JoinedStop}

-- a stop names some of this many places, and no load that is too great
pub record IsJoinedStop (places : ℕ) (stop : JoinedStop) : Type 0 where
  pub before : stop.before < places
  pub after : stop.after < places
  pub far : stop.far < places
  pub load : stop.load ≤ MAX_CAPACITY
