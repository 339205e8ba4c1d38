use Rattle.std.proofs.Common.{◌≡◌, drop}
use Rattle.vrp_model.specs.NgSets.{has_bit}
use Rattle.vrp_model.proofs.ng_sets.recalled.Given as goal

abbrev pub invariant-loop-other : goal.invariant-loop-other
invariant-loop-other l = has_bit (drop l.other-index l.near) l.left l.customer ≡ has_bit l.near l.ng_set l.customer
