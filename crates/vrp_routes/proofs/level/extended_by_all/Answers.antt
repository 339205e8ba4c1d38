use Rattle.std.proofs.Common.{◌≡◌, Ok, length, get_or, arith}
use Rattle.vrp_routes.specs.Shares.{IsFurther}
use Rattle.vrp_routes.specs.Setting.{setting_of}
use Rattle.vrp_routes.proofs.SharesSteps.{count_values, if_ok, of_value, value_at}
use Rattle.vrp_routes.proofs.level.extended_by_all.Goals as goal

pub returns : goal.returns
returns g c =
    let results = c.in_ok-results.results in
    if_ok c.all_of.result _ _ (λ next values.
    let count : length next.items ≡ length c.args.shares.items = omega (arith, count_values results.items next.items values, c.in_ok-results.ensures.count, results.ok, c.args.shares.ok) in
    record {
      count = count;
      each = λ i d e lt. of_value (get_or results.items i (Ok e)) (get_or next.items i e) (IsFurther (setting_of g.T.CompletionTest c.args.setting.now.test.now) c.args.labels.now c.args.from c.args.to (get_or c.args.shares.items i d))
          (value_at results.items next.items i (Ok e) e values (omega (arith, lt, count)))
          (c.in_ok-results.ensures.each i d (Ok e) (omega (arith, lt, c.args.shares.ok)));
    }) c.all_of.ensures
