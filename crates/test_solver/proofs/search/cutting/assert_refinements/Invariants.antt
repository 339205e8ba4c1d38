use Rattle.vrp_search_tree.specs.Cutting.{IsCutting}
use Rattle.test_solver.proofs.search.cutting.assert_refinements.Given as goal

abbrev pub invariant-loop-piece : goal.invariant-loop-piece
invariant-loop-piece g l = IsCutting l.instance l.cutting
