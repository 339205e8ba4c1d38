use Rattle.vrp_search_tree.proofs.CuttingPasses.{AreRefined}
use Rattle.vrp_search_tree.proofs.cutting.Cutting.at_least.Given as goal

abbrev pub invariant-loop-depth : goal.invariant-loop-depth
invariant-loop-depth l = AreRefined l.instance l.pieces l._depth l.initial.self l.self
