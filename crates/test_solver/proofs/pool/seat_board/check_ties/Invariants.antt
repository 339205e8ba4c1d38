use Rattle.test_solver.proofs.pool.seat_board.check_ties.Given as goal

abbrev pub ghosts-check_ties_of : goal.ghosts-check_ties_of
ghosts-check_ties_of g a = record { name = a.blank.name; parts = a.blank.parts }
