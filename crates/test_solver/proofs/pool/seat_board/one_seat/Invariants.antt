use Rattle.test_solver.proofs.pool.seat_board.one_seat.Given as goal

abbrev pub ghosts-check_one_seat : goal.ghosts-check_one_seat
ghosts-check_one_seat g a = record { name = a.blank.name; parts = a.blank.parts }
