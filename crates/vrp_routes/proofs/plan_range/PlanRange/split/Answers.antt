use Rattle.std.proofs.Common.{◌≡◌, Some, refl, arith}
use Rattle.vrp_routes.specs.declared.plan_range.PlanRange.{PlanRange}
use Rattle.vrp_routes.proofs.Ranges.{branched}
use Rattle.vrp_routes.proofs.plan_range.PlanRange.split.Goals as goal

pub returns-clause-all : goal.returns-clause-all
returns-clause-all c = λ p routes inside.
    let range = c.args.self in
    let few : PlanRange = record { limit = range.limit; least_routes = range.least_routes; most_routes = Some c.at_most.result } in
    let many : PlanRange = record { limit = range.limit; least_routes = c.max.result; most_routes = range.most_routes } in
    branched p range few many c.args.fewer routes refl refl
    (λ count le within most is. let same : c.at_most.result ≡ most = cc in omega (arith, c.at_most.ensures.both count le within, same))
    refl refl
    (λ count more least. omega (arith, c.max.ensures, c.saturating_add.ensures, more, least))
    inside
