use Rattle.test_solver.proofs.register.register.check_register.Given as goal

abbrev pub ghosts-closed_by_offers : goal.ghosts-closed_by_offers
ghosts-closed_by_offers g a = record { name = a.blank.name; parts = a.blank.parts }
