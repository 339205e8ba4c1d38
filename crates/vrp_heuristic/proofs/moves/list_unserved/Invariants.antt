use Rattle.std.proofs.Common.{◌≡◌}
use Rattle.vrp_model.specs.Problem.{place_count}
use Rattle.vrp_heuristic.proofs.moves.list_unserved.Given as goal

abbrev pub invariant-loop-customer : goal.invariant-loop-customer
invariant-loop-customer l = l.taken ≡ place_count l.setting
