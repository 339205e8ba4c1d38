use Rattle.std.proofs.Common.{arith}
use Rattle.vrp_routes.proofs.SharesSteps.{both_ok, if_ok}
use Rattle.vrp_routes.proofs.merge.ranges_from.Goals as goal

pub returns-clause-each : goal.returns-clause-each
returns-clause-each g c =
    if_ok c.values_of.result _ _ (λ ranges known i d lt. known.1 i d (omega (arith, lt, known.0, ranges.ok)))
    (both_ok c.values_of.result _ _ c.values_of.ensures.count c.values_of.ensures.each)
