use Rattle.vrp_text.proofs.NodeLemmas.{ReadsDepots}
use Rattle.vrp_text.proofs.nodes.depots_of.Given as goal

abbrev pub invariant-loop-number : goal.invariant-loop-number
invariant-loop-number l = ReadsDepots l.nodes l.numbers l.number-index l.depots.items
