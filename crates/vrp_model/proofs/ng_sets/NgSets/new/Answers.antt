use Rattle.std.proofs.Common.{arith}
use Rattle.std.proofs.lemmas.Nat.{one_shl}
use Rattle.vrp_model.proofs.PlacePairs.{few_masks}
use Rattle.vrp_model.proofs.ng_sets.NgSets.new.Goals as goal

pub ng_sets_before-requires-clause-few_masks : goal.ng_sets_before-requires-clause-few_masks
ng_sets_before-requires-clause-few_masks c = omega (arith, one_shl c.args.size 64 (omega arith), few_masks c.args.size c.requires.few)
