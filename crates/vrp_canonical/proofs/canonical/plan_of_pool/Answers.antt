use Rattle.std.proofs.Common.{◌≡◌, ◌+◌, ◌≤◌, ◌∙◌, ℕ, IfSome, Option, Some, List, Vec, Global, ap, map, min, subst, arith}
use Rattle.vrp_canonical.specs.Ordering.{AreOrdered, route_of}
use Rattle.vrp_canonical.specs.Whole.{IsWhole}
use Rattle.vrp_model.specs.Fleet.{IsFleet}
use Rattle.vrp_canonical.specs.declared.ordered.ListedRoute.{ListedRoute}
use Rattle.vrp_canonical.specs.declared.residual.Residual.{Residual}
use Rattle.vrp_canonical.proofs.CanonicalPlans.{bound_follows, narrowed_bound, told}
use Rattle.vrp_model.specs.Cheapest.{NoneCheaper}
use Rattle.vrp_model.specs.Problem.{Problem, customers}
use Rattle.vrp_partition.specs.Branching.{IsBestSoFar, IsFound}
use Rattle.vrp_partition.specs.Choice.{IsCheapest, NoneBelow}
use Rattle.vrp_partition.specs.declared.route.Route.{Route}
use Rattle.vrp_partition.specs.declared.search.Found.TheVariants.{Cheapest, Unfinished}
use Rattle.vrp_model.specs.CustomerSet.{set_of}
use Rattle.vrp_routes.specs.Pool.{IsPool, RouteOf}
use Rattle.vrp_canonical.proofs.canonical.plan_of_pool.Goals as goal

-- what narrowing says of the routes that are left
abbrev AreNarrowed : List RouteOf → Residual → Vec ListedRoute Global → Type 0
AreNarrowed pool whole ordered = (p : Problem) (limit : ℕ) → IsPool p limit pool → IsFleet p whole.trucks → whole.unserved ≡ set_of (customers p) → whole.most ≤ limit → AreOrdered p whole.most ordered.items

ordered_within : (p : Problem) (pool : List RouteOf) (routes : List Route) (whole : Residual) (narrowed : Option (Vec ListedRoute Global)) (ordered : Vec ListedRoute Global)
    → IsWhole p pool routes whole → narrowed ≡ Some ordered → IfSome narrowed (AreNarrowed pool whole) → AreOrdered p whole.most ordered.items
ordered_within p pool routes whole narrowed ordered is_whole is are =
    told narrowed ordered (AreNarrowed pool whole) is are p whole.most is_whole.listed is_whole.fleet is_whole.customers (omega arith)

-- where no choice of these routes costs less than a bound of at most one more than the limit, no feasible plan does
bound_within : (p : Problem) (pool : List RouteOf) (routes : List Route) (whole : Residual) (ordered : List ListedRoute) (bound : ℕ)
    → IsWhole p pool routes whole → AreOrdered p whole.most ordered → NoneBelow (map route_of ordered) whole.unserved whole.trucks 0 bound
    → bound ≤ whole.most + 1 → NoneCheaper p bound
bound_within p pool routes whole ordered bound is_whole are below within =
    narrowed_bound p whole.most ordered whole.unserved whole.trucks bound is_whole.problem are is_whole.fleet is_whole.customers below within

pub plan_of_choice-requires-clause-ordered : goal.plan_of_choice-requires-clause-ordered
plan_of_choice-requires-clause-ordered g c κs within =
    ordered_within c.args.search.now.instance.now c.args.search.now.pool.now c.args.search.now.routes.now c.args.search.now.whole c.in_ok-narrowed.narrowed c.in-Some.ordered
    c.requires.whole c.in-Some.is c.in_ok-narrowed.ensures.ordered

pub returns-in-Some-Cheapest-2-clause-bound : goal.returns-in-Some-Cheapest-2-clause-bound
returns-in-Some-Cheapest-2-clause-bound g c =
    let search = c.args.search.now in
    let whole = search.whole in
    let p = search.instance.now in
    let ordered = c.in-Some.ordered in
    let chosen = c.in-Some-Cheapest.chosen in
    let are : AreOrdered p whole.most ordered.items = ordered_within p search.pool.now search.routes.now whole c.in_ok-narrowed.narrowed ordered c.requires.whole c.in-Some.is c.in_ok-narrowed.ensures.ordered in
    let found : IsCheapest (map route_of c.as_slice.result.now) whole.unserved whole.trucks 0 (whole.most + 1) chosen.cost chosen.routes.items =
    told c.in_ok-chosen.field-0 (Cheapest chosen) (IsFound (map route_of c.as_slice.result.now) whole.unserved whole.trucks 0 (whole.most + 1)) (c.in-Some-Cheapest.is ∙ ap Some c.in-Some-Cheapest.field-0-is) c.in_ok-chosen.ensures.found in
    let below : NoneBelow (map route_of ordered.items) whole.unserved whole.trucks 0 chosen.cost = subst (λ (rs : List ListedRoute). NoneBelow (map route_of rs) whole.unserved whole.trucks 0 chosen.cost) c.as_slice.ensures.value found.least in
    bound_follows c.none_within.result (λ (bound : ℕ). bound ≡ whole.most + 1) (NoneCheaper p)
    (λ bound is. bound_within p search.pool.now search.routes.now whole ordered.items bound c.requires.whole are
    (λ rs choice many. omega (arith, below rs choice many, c.if-branch-most.false, is)) (omega (arith, is)))
    c.none_within.ensures.bound

pub returns-in-Some-Unfinished-clause-bound : goal.returns-in-Some-Unfinished-clause-bound
returns-in-Some-Unfinished-clause-bound g c =
    let search = c.args.search.now in
    let whole = search.whole in
    let p = search.instance.now in
    let ordered = c.in-Some.ordered in
    let best = c.in-Some-Unfinished.best in
    let lower = c.in-Some-Unfinished.lower_bound in
    let are : AreOrdered p whole.most ordered.items = ordered_within p search.pool.now search.routes.now whole c.in_ok-narrowed.narrowed ordered c.requires.whole c.in-Some.is c.in_ok-narrowed.ensures.ordered in
    let found : IsBestSoFar (map route_of c.as_slice.result.now) whole.unserved whole.trucks 0 (whole.most + 1) best lower =
    told c.in_ok-chosen.field-0 (Unfinished best lower) (IsFound (map route_of c.as_slice.result.now) whole.unserved whole.trucks 0 (whole.most + 1)) (c.in-Some-Unfinished.is ∙ ap Some c.in-Some-Unfinished.field-0-is) c.in_ok-chosen.ensures.found in
    let below : NoneBelow (map route_of ordered.items) whole.unserved whole.trucks 0 lower = subst (λ (rs : List ListedRoute). NoneBelow (map route_of rs) whole.unserved whole.trucks 0 lower) c.as_slice.ensures.value found.bound in
    bound_follows c.best_so_far.result (λ (bound : ℕ). bound ≡ min lower whole.most) (NoneCheaper p)
    (λ bound is. bound_within p search.pool.now search.routes.now whole ordered.items bound c.requires.whole are
    (λ rs choice many. omega (arith, below rs choice many, is)) (omega (arith, is)))
    c.best_so_far.ensures.bound
