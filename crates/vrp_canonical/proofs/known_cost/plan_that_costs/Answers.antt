use Rattle.std.proofs.Common.{◌≡◌, ◌≤◌, ℕ, Vec, Global, arith}
use Rattle.vrp_canonical.specs.Ordering.{AreOrdered}
use Rattle.vrp_canonical.specs.declared.ordered.ListedRoute.{ListedRoute}
use Rattle.vrp_canonical.proofs.CanonicalPlans.{task_as_cheap, told}
use Rattle.vrp_model.specs.CustomerSet.{set_of}
use Rattle.vrp_model.specs.Fleet.{IsFleet}
use Rattle.vrp_model.specs.Problem.{Problem, customers}
use Rattle.vrp_routes.specs.Pool.{IsPool}
use Rattle.vrp_canonical.proofs.known_cost.plan_that_costs.Goals as goal

pub plan_by_pass-requires-clause-task : goal.plan_by_pass-requires-clause-task
plan_by_pass-requires-clause-task g c κs within =
    let p = c.args.search.now.instance.now in
    let whole = c.args.search.now.whole in
    let pool = c.args.search.now.pool.now in
    let is = c.requires.whole in
    let ordered = c.in-Some.ordered.items in
    let are : AreOrdered p whole.most ordered =
    told c.in_ok-narrowed.narrowed c.in-Some.ordered (λ (o : Vec ListedRoute Global). (p : Problem) (limit : ℕ) → IsPool p limit pool → IsFleet p whole.trucks → whole.unserved ≡ set_of (customers p) → whole.most ≤ limit → AreOrdered p whole.most o.items)
    c.in-Some.is c.in_ok-narrowed.ensures.ordered p whole.most is.listed is.fleet is.customers (omega arith) in
    task_as_cheap p ordered c.args.known.now whole is.problem are is.fleet is.customers c.requires.plan c.requires.cost c.requires.least
