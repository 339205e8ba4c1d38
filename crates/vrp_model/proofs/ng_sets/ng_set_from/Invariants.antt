use Rattle.std.proofs.Common.{◌≡◌, ◌+◌, ◌*◌, ◌<◌, ◌^◌, drop}
use Rattle.vrp_model.specs.NgSets.{bits_of, recalls}
use Rattle.vrp_model.proofs.ng_sets.ng_set_from.Given as goal

abbrev pub invariant-loop-customer : goal.invariant-loop-customer
invariant-loop-customer l = record {
  so_far : l.bits + l.bit * bits_of (recalls l.near_stop l.stop l.ng_set) (drop l.customer-index l.near_at) ≡ bits_of (recalls l.near_stop l.stop l.ng_set) l.near_at;
  below : l.bits < l.bit;
  power : l.bit ≡ 2 ^ l.customer-index;
}
