use Rattle.std.proofs.Common.{◌≡◌}
use Rattle.vrp_model.specs.Problem.{place_count}
use Rattle.test_solver.proofs.heuristic.runs.assert_moves.Given as goal

abbrev pub invariant-loop-index : goal.invariant-loop-index
invariant-loop-index g l = record {
  taken : l.taken ≡ place_count l.instance;
  states : l.states ≡ place_count l.instance;
}
