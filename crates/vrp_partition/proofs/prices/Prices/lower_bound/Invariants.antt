use Rattle.std.proofs.Common.{◌≡◌, ◌≤◌, ◌*◌, ◌^◌, take}
use Rattle.std.specs.List.{sum_by}
use Rattle.vrp_partition.specs.declared.prices.Cut.{Cut}
use Rattle.vrp_partition.proofs.prices.Prices.lower_bound.Given as goal

abbrev pub invariant-loop-cut : goal.invariant-loop-cut
invariant-loop-cut l = record { value : l.due ≡ sum_by (λ (cut : Cut). cut.count * cut.price) (take l.cut-index l.cut-items); small : l.due ≤ l.cut-index * 2 ^ 82 }

abbrev pub invariant-loop-cut-2 : goal.invariant-loop-cut-2
invariant-loop-cut-2 l = record { value : l.spent ≡ sum_by (λ (cut : Cut). cut.price) (take l.cut-index l.cut-items); small : l.spent ≤ l.cut-index * 2 ^ 50 }
