use Rattle.std.proofs.Common.{◌≡◌, ◌≤◌, ◌*◌, take}
use Rattle.std.specs.List.{sum_by}
use Rattle.vrp_model.specs.Problem.{customers}
use Rattle.vrp_bound_prices.specs.Priced.{rebate_in}
use Rattle.vrp_bound_prices.proofs.prices.rebate_rewards.Given as goal

abbrev pub invariant-loop-index : goal.invariant-loop-index
invariant-loop-index l = record {
  summed : l.whole ≡ sum_by (rebate_in l.prices) (take l.index (customers l.instance));
  small : l.whole ≤ 1000000000000 * l.index;
}
