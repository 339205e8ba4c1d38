use Rattle.std.proofs.Common.{◌≡◌, ◌*◌, ◌≤◌, take}
use Rattle.std.specs.List.{sum_by}
use Rattle.vrp_bound_prices.proofs.CutSums.{cut_price_across}
use Rattle.vrp_bound_prices.proofs.cut_prices.cut_prices.Given as goal

abbrev pub invariant-loop-cut : goal.invariant-loop-cut
invariant-loop-cut l = record {
  summed : l.whole ≡ sum_by (cut_price_across l.from l.to) (take l.cut-index l.cuts);
  small : l.whole ≤ 1000000000000 * l.cut-index;
}
