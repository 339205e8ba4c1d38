use Rattle.vrp_search_tree.proofs.ChildrenListed.{AddedBelow}
use Rattle.vrp_search_tree.proofs.cutting.Cutting.push_children.Given as goal

abbrev pub invariant-loop-symbol : goal.invariant-loop-symbol
invariant-loop-symbol l = AddedBelow l.instance l.prefix l.symbol l.initial.self l.self
