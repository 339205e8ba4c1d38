use Rattle.vrp_model.proofs.Euclid.{IsEuclidean-at_root, IsEuclidean-past_root}
use Rattle.vrp_model.proofs.metric.nearest_root.Goals as goal

pub returns-then-square-root : goal.returns-then-square-root
returns-then-square-root c =
    IsEuclidean-past_root c.args.square c.isqrt-root.result c.isqrt-root.ensures c.if-square-root.true

pub returns-else-square-root : goal.returns-else-square-root
returns-else-square-root c =
    IsEuclidean-at_root c.args.square c.isqrt-root.result c.isqrt-root.ensures c.if-square-root.false
