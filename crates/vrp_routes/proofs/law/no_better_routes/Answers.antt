use Rattle.vrp_routes.proofs.Replaced.{no_better_route}
use Rattle.vrp_routes.proofs.law.no_better_routes.Goals as goal

pub returns : goal.returns
returns c = no_better_route
