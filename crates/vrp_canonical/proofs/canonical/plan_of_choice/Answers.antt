use Rattle.std.proofs.Common.{◌≡◌, ◌≤◌, ℕ, Vec, Global, min, arith}
use Rattle.vrp_canonical.specs.Ordering.{AreOrdered}
use Rattle.vrp_model.specs.Fleet.{IsFleet}
use Rattle.vrp_canonical.specs.declared.ordered.ListedRoute.{ListedRoute}
use Rattle.vrp_canonical.proofs.CanonicalPlans.{bound_follows, canonical_task, narrowed_bound, told}
use Rattle.vrp_model.specs.Cheapest.{NoneCheaper}
use Rattle.vrp_model.specs.Problem.{Problem, customers}
use Rattle.vrp_model.specs.CustomerSet.{set_of}
use Rattle.vrp_canonical.proofs.canonical.plan_of_choice.Goals as goal

pub plan_by_pass-requires-clause-task : goal.plan_by_pass-requires-clause-task
plan_by_pass-requires-clause-task g c κs within =
    let p = c.args.search.now.instance.now in
    let whole = c.args.search.now.whole in
    let chosen = c.args.chosen in
    let narrowed = c.args.ordered.items in
    let left = c.in-Some.left.items in
    let are : AreOrdered p chosen.cost left =
    told c.in_ok-left.left c.in-Some.left (λ (o : Vec ListedRoute Global). (p : Problem) → AreOrdered p whole.most narrowed → IsFleet p whole.trucks → whole.unserved ≡ set_of (customers p) → chosen.cost ≤ whole.most → AreOrdered p chosen.cost o.items)
    c.in-Some.is c.in_ok-left.ensures.ordered p c.requires.ordered c.requires.whole.fleet c.requires.whole.customers c.requires.within in
    canonical_task p whole.most narrowed left chosen.routes.items whole.unserved whole.trucks chosen.cost c.requires.whole.problem c.requires.ordered c.requires.whole.fleet c.requires.whole.customers c.requires.cheapest c.requires.within are

pub returns-in-None-plan-clause-bound : goal.returns-in-None-plan-clause-bound
returns-in-None-plan-clause-bound g c =
    let p = c.args.search.now.instance.now in
    let whole = c.args.search.now.whole in
    let narrowed = c.args.ordered.items in
    bound_follows c.best_so_far.result (λ (bound : ℕ). bound ≡ min c.args.chosen.cost whole.most) (NoneCheaper p)
    (λ bound is. narrowed_bound p whole.most narrowed whole.unserved whole.trucks bound c.requires.whole.problem c.requires.ordered c.requires.whole.fleet c.requires.whole.customers
    (λ rs choice many. omega (arith, c.requires.cheapest.least rs choice many, is)) (omega (arith, is)))
    c.best_so_far.ensures.bound
