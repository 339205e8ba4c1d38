use Rattle.std.proofs.Common.{◌≡◌, ◌≤◌, length}
use Rattle.std.specs.Vec.{vec_capacity}
use Rattle.vrp_model.specs.Inner.Before.{AreBefore}
use Rattle.vrp_model.specs.Near.{listing}
use Rattle.vrp_model.proofs.ng_sets.ng_sets_before.Given as goal

abbrev pub invariant-loop-index : goal.invariant-loop-index
invariant-loop-index l = record {
  len : length l.before.items ≡ l.index;
  capacity : l.count ≤ vec_capacity l.before;
  known : AreBefore (listing l.places l.size l.near) l.masks l.before.items;
}
