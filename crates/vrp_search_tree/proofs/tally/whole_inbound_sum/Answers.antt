use Rattle.std.proofs.Common.{arith}
use Rattle.vrp_search_tree.proofs.ArcsIn.{all_arcs, none_so_far, one_more_arc}
use Rattle.vrp_search_tree.proofs.tally.whole_inbound_sum.Goals as goal

pub loop-index-init : goal.loop-index-init
loop-index-init c = none_so_far c.args.instance.now

pub loop-index-preserved : goal.loop-index-preserved
loop-index-preserved c = one_more_arc c.args.instance.now c.loop-index.index c.loop-index.inbound_sum c.least_in-inbound_sum.result (omega (arith, c.customers-index-end.ensures.value, c.loop-index-test.true)) c.loop-index.invariant c.least_in-inbound_sum.ensures.least c.least_in-inbound_sum.ensures.small

pub returns-clause-inbound_sum : goal.returns-clause-inbound_sum
returns-clause-inbound_sum c =
    all_arcs c.args.instance.now c.loop-index.index c.loop-index.inbound_sum (omega (arith, c.customers-index-end.ensures.value, c.loop-index-test.false, c.loop-index.auto.index-end)) c.loop-index.invariant
