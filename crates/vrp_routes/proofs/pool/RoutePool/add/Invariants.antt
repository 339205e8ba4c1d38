use Rattle.vrp_routes.proofs.PoolSteps.{Joins}
use Rattle.vrp_routes.proofs.pool.RoutePool.add.Given as goal

-- the pool has its own routes and those so far of the other, and no others
abbrev pub invariant-loop-at : goal.invariant-loop-at
invariant-loop-at l = Joins l.fn.self l.other l.at l.self
