use Rattle.std.proofs.Common.{◌≡◌, ◌∙◌, ap, sym, subst, arith}
use Rattle.std.specs.Option.{option_map}
use Rattle.vrp_model.specs.Cheapest.{NoneCheaper, cost_of}
use Rattle.vrp_model.specs.Route.{IsPlanOf, PricedPlan}
use Rattle.vrp_answer.specs.Outcomes.{Search}
use Rattle.vrp_solver.proofs.Solvings.{canonical_no_costlier}
use Rattle.vrp_solver.proofs.columns.plan_by_columns.Goals as goal

pub plan_from-requires-clause-known : goal.plan_from-requires-clause-known
plan_from-requires-clause-known g c κs within =
    subst (λ (s : Search). IsPlanOf s.problem c.in-Some.known.now) c.shared.view_is (c.shared.invariant.2 c.in-Some.known.now (ap (option_map (λ plan. plan.now)) c.in-Some.is))

pub returns-clause-no_costlier : goal.returns-clause-no_costlier
returns-clause-no_costlier g c =
    let p = c.args.shared.now.problem in
    let known : PricedPlan = c.in-Some.known.now in
    let plan_of = subst (λ (s : Search). IsPlanOf s.problem known) c.shared.view_is (c.shared.invariant.2 known (ap (option_map (λ plan. plan.now)) c.in-Some.is)) in
    let cost : cost_of c.args.shared.now.start_plan ≡ known.cost = ap (λ (s : Search). cost_of s.start_plan) (sym c.shared.view_is) ∙ ap (λ start. cost_of (option_map (λ plan. plan.now) start)) c.in-Some.is in
    canonical_no_costlier p (cost_of c.args.shared.now.start_plan) c.plan_from.result (λ plan canonical. (let cheapest : NoneCheaper p plan.cost = c.canonical_is_cheapest.ensures p plan canonical in
    omega (arith, cost, plan_of.priced, cheapest known.routes plan_of.lawful))) c.plan_from.ensures.canonical
