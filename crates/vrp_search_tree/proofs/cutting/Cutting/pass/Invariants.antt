use Rattle.std.proofs.Common.{drop}
use Rattle.vrp_search_tree.specs.Inner.Pass.{IsPass}
use Rattle.vrp_search_tree.proofs.cutting.Cutting.pass.Given as goal

abbrev pub invariant-loop-index : goal.invariant-loop-index
invariant-loop-index l = IsPass l.instance l.wanted l.self l.next (drop l.index l.self) l.refined
