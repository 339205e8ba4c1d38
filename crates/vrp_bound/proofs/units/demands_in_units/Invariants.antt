use Rattle.std.proofs.Common.{◌≡◌, ◌≤◌, take}
use Rattle.std.specs.Vec.{vec_capacity}
use Rattle.vrp_bound.specs.Inner.Units.{in_units}
use Rattle.vrp_bound.proofs.units.demands_in_units.Given as goal

abbrev pub invariant-loop-place : goal.invariant-loop-place
invariant-loop-place l = record {
  items : l.demands.items ≡ take l.place (in_units l.scope.unit l.scope.instance.now).demands;
  capacity : l.scope.places ≤ vec_capacity l.demands;
}
