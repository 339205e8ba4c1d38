use Rattle.vrp_search_tree.proofs.Tallies.{tally_of_nothing}
use Rattle.vrp_search_tree.proofs.tally.Tally.root.Goals as goal

pub returns : goal.returns
returns c =
    tally_of_nothing c.args.instance.now c.whole_demand.result c.whole_inbound_sum.result c.customers-customers.result c.whole_demand.ensures.value c.whole_inbound_sum.ensures.inbound_sum c.whole_inbound_sum.ensures.small c.customers-customers.ensures.value
