use Rattle.std.proofs.Common.{rules}
use Rattle.vrp_solver.proofs.seat_board.SeatBoardBoard.offer.Goals as goal

pub returns-clause-serves : goal.returns-clause-serves
returns-clause-serves g c = λ p serves plan_of. (let kept = c.keep.ensures.serves p serves plan_of in rw c.tell.ensures.best (search (rules, kept)))
