use Rattle.std.proofs.Common.{◌-◌, refl, arith}
use Rattle.std.proofs.lemmas.Iterator.{YieldsList-from_range, items_from_collect}
use Rattle.vrp_model.specs.Problem.{place_count}
use Rattle.vrp_bound.proofs.tables.all_customers.Goals as goal

pub returns : goal.returns
returns c =
    let p = c.args.instance.now in
    let collected = items_from_collect c.collect.result c.collect.ensures.ran (YieldsList-from_range 1 _ (place_count p - 1) refl (omega arith)) in
    rw c.in_ok-collect.was at collected
