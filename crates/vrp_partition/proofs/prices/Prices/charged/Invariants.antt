use Rattle.std.proofs.Common.{◌≡◌, ◌≤◌, ◌*◌, ◌^◌, take}
use Rattle.vrp_partition.specs.Prices.{charges}
use Rattle.vrp_partition.proofs.prices.Prices.charged.Given as goal

abbrev pub invariant-loop-cut : goal.invariant-loop-cut
invariant-loop-cut l = record { value : l.total ≡ charges (take l.cut-index l.cut-items) l.set; small : l.total ≤ l.cut-index * 2 ^ 50 }
