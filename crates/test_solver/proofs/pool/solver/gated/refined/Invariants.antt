use Rattle.std.proofs.Common.{◌*◌, ◌≤◌, length}
use Rattle.vrp_search_tree.specs.Cutting.{IsCutting}
use Rattle.vrp_search_tree.specs.declared.cutting.TheConstants.{MAX_REFINED}
use Rattle.test_solver.proofs.pool.solver.gated.refined.Given as goal

abbrev pub invariant-loop-number : goal.invariant-loop-number
invariant-loop-number g l = IsCutting l.instance l.cutting × (length l.cutting ≤ 2 * MAX_REFINED)
