use Rattle.vrp_search_tree.proofs.ArcsIn.{InboundSumSoFar}
use Rattle.vrp_search_tree.proofs.tally.whole_inbound_sum.Given as goal

abbrev pub invariant-loop-index : goal.invariant-loop-index
invariant-loop-index l = InboundSumSoFar l.instance l.index l.inbound_sum
