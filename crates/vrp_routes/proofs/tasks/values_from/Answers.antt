use Rattle.std.proofs.Common.{◌+◌, Ok, subst, arith}
use Rattle.vrp_routes.proofs.SharesSteps.{count_values, if_ok, value_at}
use Rattle.vrp_routes.proofs.tasks.values_from.Goals as goal

pub returns-clause-each : goal.returns-clause-each
returns-clause-each g c =
    let results = c.in_ok-results.results in
    if_ok c.all_of.result _ _ (λ values is i d lt.
    let here = value_at results.items values.items i (Ok d) d is (omega (arith, lt, count_values results.items values.items is, c.in_ok-results.ensures.len, results.ok)) in
    subst (λ r. g.F.Fn.post c.args.task.now (c.args.first + i, tt) r) here (c.in_ok-results.ensures.each i (Ok d) lt).1.met) c.all_of.ensures
