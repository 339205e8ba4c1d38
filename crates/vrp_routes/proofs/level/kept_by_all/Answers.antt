use Rattle.std.proofs.Common.{◌<◌, Ok, length, get_or, arith}
use Rattle.vrp_routes.specs.Shares.{IsPart}
use Rattle.vrp_routes.proofs.SharesSteps.{count_values, if_ok, of_value, value_at}
use Rattle.vrp_routes.proofs.level.kept_by_all.Goals as goal

pub returns-clause-count : goal.returns-clause-count
returns-clause-count g c =
    let results = c.in_ok-results.results in
    if_ok c.all_of.result _ _ (λ parts values. omega (arith, count_values results.items parts.items values, c.in_ok-results.ensures.count, results.ok)) c.all_of.ensures

pub returns-clause-parts : goal.returns-clause-parts
returns-clause-parts g c =
    let results = c.in_ok-results.results in
    let found = c.args.found.items in
    if_ok c.all_of.result _ _ (λ parts values i d e lt.
    let inside : i < length parts.items = omega (arith, lt, count_values results.items parts.items values, c.in_ok-results.ensures.count, results.ok) in
    of_value (get_or results.items i (Ok e)) (get_or parts.items i e) (IsPart (get_or found i d))
    (value_at results.items parts.items i (Ok e) e values inside)
    (c.in_ok-results.ensures.each i d (Ok e) lt)) c.all_of.ensures
