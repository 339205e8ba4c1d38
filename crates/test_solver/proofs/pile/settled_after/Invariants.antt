use Rattle.std.proofs.Common.{◌≡◌}
use Rattle.test_solver.proofs.pile.settled_after.Given as goal

abbrev pub invariant-loop : goal.invariant-loop
invariant-loop g l = record { pile : l.owner.pile ≡ l.initial.owner.pile; parts : l.owner.parts ≡ l.initial.owner.parts }
