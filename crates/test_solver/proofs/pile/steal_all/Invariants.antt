use Rattle.std.proofs.Common.{◌≡◌}
use Rattle.test_solver.proofs.pile.steal_all.Given as goal

abbrev pub invariant-loop : goal.invariant-loop
invariant-loop g l = l.thief.pile ≡ l.fn.thief.pile
