use Rattle.std.proofs.Common.{◌≡◌, ◌≤◌, ◌*◌, take}
use Rattle.std.specs.Int.{bit_at}
use Rattle.std.specs.List.{sum_by}
use Rattle.vrp_model.specs.Problem.{customers, demand_of}
use Rattle.vrp_model.specs.declared.limits.TheConstants.{MAX_CAPACITY}
use Rattle.vrp_duals.proofs.needed.set_demand.Given as goal

abbrev pub invariant-loop-index : goal.invariant-loop-index
invariant-loop-index l = record {
  value : l.demand ≡ sum_by (λ customer. bit_at l.set customer * demand_of l.instance customer) (take l.index (customers l.instance));
  small : l.demand ≤ MAX_CAPACITY * l.index;
}
