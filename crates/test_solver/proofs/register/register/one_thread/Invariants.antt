use Rattle.test_solver.proofs.register.register.one_thread.Given as goal

abbrev pub ghosts-closed_by_one : goal.ghosts-closed_by_one
ghosts-closed_by_one g a = record { name = a.blank.name; parts = a.blank.parts }
