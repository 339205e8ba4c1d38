-- The whole problem, as a search among the routes of a pool sees it.
use Rattle.std.specs.Prelude.{◌≡◌, List, map}
use Rattle.vrp_canonical.specs.Ordering.{chosen_of}
use Rattle.vrp_model.specs.Fleet.{IsFleet}
use Rattle.vrp_canonical.specs.declared.residual.Residual.{Residual}
use Rattle.vrp_model.specs.Problem.{IsProblem, Problem, customers}
use Rattle.vrp_partition.specs.declared.route.Route.{Route}
use Rattle.vrp_model.specs.CustomerSet.{set_of}
use Rattle.vrp_routes.specs.Pool.{IsPool, RouteOf}

-- all customers, the whole fleet and the limit for which the pool was listed; the routes are the pool's as a choice sees them
pub record IsWhole (p : Problem) (pool : List RouteOf) (routes : List Route) (whole : Residual) : Type 0 where
  pub problem : IsProblem p
  pub customers : whole.unserved ≡ set_of (customers p)
  pub fleet : IsFleet p whole.trucks
  pub listed : IsPool p whole.most pool
  pub seen : routes ≡ map chosen_of pool
