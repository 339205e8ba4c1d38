use Rattle.std.proofs.Common.{◌≡◌, ◌≤◌, ◌*◌, take}
use Rattle.vrp_model.specs.Problem.{customers}
use Rattle.vrp_model.specs.Route.{load_of}
use Rattle.vrp_model.proofs.instance.Instance.whole_demand.Given as goal

abbrev pub invariant-loop-index : goal.invariant-loop-index
invariant-loop-index l = record {
  demanded : l.demand ≡ load_of l.self (take l.index (customers l.self));
  small : l.demand ≤ 1000000000 * l.index;
}
