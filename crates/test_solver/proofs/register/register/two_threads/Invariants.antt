use Rattle.test_solver.proofs.register.register.two_threads.Given as goal

abbrev pub ghosts-closed_by_two : goal.ghosts-closed_by_two
ghosts-closed_by_two g a = record { name = a.blank.name; parts = a.blank.parts }
