-- What stops, routes and gaps name.
use Rattle.std.specs.Prelude.{◌≡◌, ℕ, ◌<◌, ◌≤◌, List, length}
use Rattle.std.specs.List.{All}
use Rattle.vrp_heuristic.specs.declared.routes.Gap.{Gap}
use Rattle.vrp_heuristic.specs.declared.routes.RouteState.{RouteState}
use Rattle.vrp_heuristic.specs.declared.routes.Stop.{Stop}
use Rattle.vrp_model.specs.declared.limits.TheConstants.{MAX_NODES}

-- a stop names some of this many places, and of as many routes
pub record IsStop (places : ℕ) (stop : Stop) : Type 0 where
  pub before : stop.before < places
  pub after : stop.after < places
  pub route : stop.route < places

-- a route names some of this many places
pub record IsRoute (places : ℕ) (route : RouteState) : Type 0 where
  pub first : route.first < places

-- a gap names some of this many places, and of as many routes
pub record IsGap (places : ℕ) (gap : Gap) : Type 0 where
  pub route : gap.route < places
  pub before : gap.before < places

-- stops of this many places, and as many routes of which none above the highest has a stop
pub record AreRoutes (places : ℕ) (stops : List Stop) (routes : List RouteState) (highest : ℕ) : Type 0 where
  pub few : places ≤ MAX_NODES
  pub stops_within : All (IsStop places) stops
  pub one_each : length routes ≡ places
  pub routes_within : All (IsRoute places) routes
  pub highest_within : highest < places
