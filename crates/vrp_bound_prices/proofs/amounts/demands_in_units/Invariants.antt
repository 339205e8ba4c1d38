use Rattle.std.proofs.Common.{◌≡◌, ◌+◌, ◌≤◌, vec_len}
use Rattle.std.specs.Prelude.{slice_index}
use Rattle.std.specs.Vec.{vec_capacity}
use Rattle.vrp_model.specs.Problem.{place_count}
use Rattle.vrp_bound_prices.proofs.InUnits.{AreInUnits}
use Rattle.vrp_bound_prices.proofs.amounts.demands_in_units.Given as goal

abbrev pub invariant-loop-index : goal.invariant-loop-index
invariant-loop-index l = record {
  len : vec_len l.demands ≡ l.index + 1;
  capacity : place_count l.instance ≤ vec_capacity l.demands;
  depot : slice_index l.demands.items 0 ≡ 0;
  units : AreInUnits l.instance l.unit l.demands.items;
}
