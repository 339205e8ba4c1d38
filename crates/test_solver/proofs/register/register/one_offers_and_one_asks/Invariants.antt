use Rattle.test_solver.proofs.register.register.one_offers_and_one_asks.Given as goal

abbrev pub ghosts-closed_while_asked : goal.ghosts-closed_while_asked
ghosts-closed_while_asked g a = record { name = a.blank.name; parts = a.blank.parts }
