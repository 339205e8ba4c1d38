use Rattle.std.proofs.Common.{arith}
use Rattle.vrp_model.proofs.PlacePairs.{few_masks}
use Rattle.vrp_model.proofs.ng_sets.NgSets.masks.Goals as goal

pub returns-clause-few : goal.returns-clause-few
returns-clause-few c =
    let kept = c.self.invariant in
    omega (arith, kept.bits, few_masks c.self.inside.size kept.few)
