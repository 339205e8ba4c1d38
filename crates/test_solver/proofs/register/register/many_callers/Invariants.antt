use Rattle.test_solver.proofs.register.register.many_callers.Given as goal

abbrev pub ghosts-closed_by_many : goal.ghosts-closed_by_many
ghosts-closed_by_many g a = record { name = a.blank.name; parts = a.blank.parts }
