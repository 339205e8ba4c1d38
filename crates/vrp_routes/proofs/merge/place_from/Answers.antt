use Rattle.std.proofs.Common.{rules, of_calls, nat_lt, get_or, arith}
use Rattle.std.proofs.lemmas.Fn.{always_returns_same}
use Rattle.vrp_routes.proofs.NumbersBelow.{is_below, not_below}
use Rattle.vrp_routes.proofs.RisingParents.{parted_by_parent}
use Rattle.vrp_routes.proofs.merge.place_from.Goals as goal

pub returns-clause-below : goal.returns-clause-below
returns-clause-below g c =
    let labels = c.args.labels.now in
    let point = c.partition_point.ensures.partitioned (λ label. nat_lt label.parent c.args.parent) (always_returns_same _ _ _ (λ a r f k. search (rules, of_calls))) (parted_by_parent labels c.args.parent c.requires.rising) in
    λ i d less. is_below (get_or labels i d).parent c.args.parent (point.0 i d (omega arith) less)

pub returns-clause-above : goal.returns-clause-above
returns-clause-above g c =
    let labels = c.args.labels.now in
    let point = c.partition_point.ensures.partitioned (λ label. nat_lt label.parent c.args.parent) (always_returns_same _ _ _ (λ a r f k. search (rules, of_calls))) (parted_by_parent labels c.args.parent c.requires.rising) in
    λ i d from lt. not_below (get_or labels i d).parent c.args.parent (point.1 i d from lt)
