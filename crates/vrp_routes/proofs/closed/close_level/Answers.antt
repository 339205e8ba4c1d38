use Rattle.std.proofs.Common.{arith, rules}
use Rattle.vrp_routes.specs.Setting.{setting_of}
use Rattle.vrp_routes.proofs.SharesSteps.{if_ok}
use Rattle.vrp_routes.proofs.closed.close_level.Goals as goal

pub returns : goal.returns
returns g c =
    let known = c.in_ok-parts.ensures in
    let s = setting_of g.T.CompletionTest c.args.setting.now.test.now in
    if_ok c.joined.result _ _ (λ routes closed k stops some is. closed s.problem s.range k stops
    (λ i d lt. known.each i d (omega (arith, lt, known.count, c.in_ok-parts.parts.ok)) k stops some is)) c.joined.ensures

pub values_of-requires-clause-tasks : goal.values_of-requires-clause-tasks
values_of-requires-clause-tasks g c κs within = λ i lt. (c.requires.level, (c.requires.few, search rules))
