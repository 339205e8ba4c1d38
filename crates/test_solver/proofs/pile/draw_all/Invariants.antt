use Rattle.std.proofs.Common.{◌≡◌}
use Rattle.test_solver.proofs.pile.draw_all.Given as goal

abbrev pub invariant-loop : goal.invariant-loop
invariant-loop g l = record { pile : l.owner.pile ≡ l.fn.owner.pile; parts : l.owner.parts ≡ l.fn.owner.parts }
