use Rattle.std.proofs.Common.{◌+◌, ◌≤◌, ℕ, List, subst, arith}
use Rattle.vrp_canonical.specs.Leaves.{BoundsLeaf}
use Rattle.vrp_canonical.proofs.CanonicalPlans.{bound_follows, told}
use Rattle.vrp_canonical.proofs.LeafBounds.{leaves_bound}
use Rattle.vrp_model.specs.Cheapest.{NoneCheaper}
use Rattle.vrp_model.specs.Problem.{Problem}
use Rattle.vrp_routes.specs.Pool.{IsPool, IsPoolIn, RouteOf}
use Rattle.vrp_routes.specs.Range.{HaveAll, plans_within}
use Rattle.vrp_canonical.proofs.leaves.canonical_plan_of_leaves.Goals as goal

pub returns-in_default-clause-bound : goal.returns-in_default-clause-bound
returns-in_default-clause-bound g c =
    let p = c.args.instance.now in
    let one = c.in_ok-one.one.lower_bound in
    let other = c.in_ok-other.other.lower_bound in
    bound_follows c.undecided.result (λ (bound : ℕ). (bound ≤ one) × (bound ≤ other) × (bound ≤ c.args.limit + 1)) (NoneCheaper p)
    (λ bound is. leaves_bound p c.args.limit bound c.args.few.range c.args.many.range one other c.choice_of_leaf.ensures.problem c.requires.all c.in_ok-one.ensures.bound c.in_ok-other.ensures.bound is.0 is.1 is.2)
    c.undecided.ensures.bound

pub returns-in_default-clause-better : goal.returns-in_default-clause-better
returns-in_default-clause-better g c = c.undecided.ensures.better c.args.instance.now tt

pub returns-then-cost-limit-clause-bound : goal.returns-then-cost-limit-clause-bound
returns-then-cost-limit-clause-bound g c =
    let p = c.args.instance.now in
    let one = c.in_ok-one.one.lower_bound in
    let other = c.in_ok-other.other.lower_bound in
    bound_follows c.undecided-then-cost-limit.result (λ (bound : ℕ). (bound ≤ one) × (bound ≤ other) × (bound ≤ c.args.limit + 1)) (NoneCheaper p)
    (λ bound is. leaves_bound p c.args.limit bound c.args.few.range c.args.many.range one other c.choice_of_leaf.ensures.problem c.requires.all c.in_ok-one.ensures.bound c.in_ok-other.ensures.bound is.0 is.1 is.2)
    c.undecided-then-cost-limit.ensures.bound

pub returns-in_default-2-clause-bound : goal.returns-in_default-2-clause-bound
returns-in_default-2-clause-bound g c =
    let p = c.args.instance.now in
    let one = c.in_ok-one.one.lower_bound in
    let other = c.in_ok-other.other.lower_bound in
    bound_follows c.undecided-in_default-2.result (λ (bound : ℕ). (bound ≤ one) × (bound ≤ other) × (bound ≤ c.args.limit + 1)) (NoneCheaper p)
    (λ bound is. leaves_bound p c.args.limit bound c.args.few.range c.args.many.range one other c.choice_of_leaf.ensures.problem c.requires.all c.in_ok-one.ensures.bound c.in_ok-other.ensures.bound is.0 is.1 is.2)
    c.undecided-in_default-2.ensures.bound

pub canonical_plan_as_cheap-requires-clause-pool : goal.canonical_plan_as_cheap-requires-clause-pool
canonical_plan_as_cheap-requires-clause-pool g c κs within =
    let few = c.args.few in
    let many = c.args.many in
    let least = c.cost-cost.result in
    subst (λ (n : ℕ). IsPool c.args.instance.now n c.in-Some-2.pool) c.cost-cost.ensures
    (told c.in_ok-pool.field-0 c.in-Some-2.pool (λ (pool : List RouteOf). (p : Problem) (limit : ℕ) → least ≤ limit
    → IsPoolIn p few.range few.pool → IsPoolIn p many.range many.pool → HaveAll (plans_within limit) few.range many.range
    → BoundsLeaf p few.range c.in_ok-one.one.lower_bound → BoundsLeaf p many.range c.in_ok-other.other.lower_bound → IsPool p least pool)
    c.in-Some-2.is c.in_ok-pool.ensures c.args.instance.now c.args.limit (omega (arith, c.if-cost-limit.false))
    c.requires.few_pool c.requires.many_pool c.requires.all c.in_ok-one.ensures.bound c.in_ok-other.ensures.bound)

pub canonical_plan_as_cheap-requires-clause-least : goal.canonical_plan_as_cheap-requires-clause-least
canonical_plan_as_cheap-requires-clause-least g c κs within =
    let p = c.args.instance.now in
    let one = c.in_ok-one.one.lower_bound in
    let other = c.in_ok-other.other.lower_bound in
    leaves_bound p c.args.limit c.in-Some.plan.cost c.args.few.range c.args.many.range one other c.choice_of_leaf.ensures.problem c.requires.all c.in_ok-one.ensures.bound c.in_ok-other.ensures.bound
    (omega (arith, c.if-cost-limit.false)) (omega (arith, c.if-cost-limit.false)) (omega (arith, c.if-cost-limit.false))
