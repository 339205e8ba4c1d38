use Rattle.vrp_solver.proofs.pieces.answer_by_pieces.Given as goal

abbrev pub ghosts-solve_pile : goal.ghosts-solve_pile
ghosts-solve_pile g a = record { name = a.blank.name; parts = a.blank.parts }
