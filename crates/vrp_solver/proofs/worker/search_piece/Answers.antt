use Rattle.std.proofs.Common.{◌≤◌, subst, arith}
use Rattle.vrp_solver.specs.SeatBoard.{floor_of}
use Rattle.vrp_answer.specs.Outcomes.{EndsPiece, IsFinishedPiece}
use Rattle.vrp_answer.specs.declared.outcome.Finished.{Finished}
use Rattle.vrp_answer.proofs.Outcomes.{finished_piece, open_piece}
use Rattle.vrp_solver.proofs.worker.search_piece.Goals as goal

pub returns-in-Finished-clause-serves : goal.returns-in-Finished-clause-serves
returns-in-Finished-clause-serves g c = c.least.ensures.serves c.args.shared.now.problem c.end_of_search.ensures.serves

pub returns-in-Finished-clause-later : goal.returns-in-Finished-clause-later
returns-in-Finished-clause-later g c = c.least.ensures.keeps c.args.board.now c.end_of_search.ensures.later

pub returns-in-Finished-clause-kept : goal.returns-in-Finished-clause-kept
returns-in-Finished-clause-kept g c =
    let s = c.args.shared.now in
    let piece = c.args.piece in
    let floor = floor_of c.end_of_search.new.board in
    let finished = subst (EndsPiece s piece.word floor) c.in-Finished.is c.in_ok-ended.ensures.ended in
    let falls : c.least.result ≤ floor = omega (arith, c.least.ensures.value, c.least.ensures.falls) in
    let kept = finished_piece s piece s.budget c.number.result floor c.least.result c.in-Finished.spent c.in-Finished.first c.number.ensures falls finished in
    let done : Finished = record { number = c.number.result; floor = c.least.result; last_offer = c.in-Finished.first } in
    subst (λ n. IsFinishedPiece s n piece done) c.least.ensures.value kept

pub returns-in-Unfinished-clause-kept : goal.returns-in-Unfinished-clause-kept
returns-in-Unfinished-clause-kept g c =
    let left = subst (EndsPiece c.args.shared.now c.args.piece.word (floor_of c.end_of_search.new.board)) c.in-Unfinished.is c.in_ok-ended.ensures.ended in
    open_piece c.args.shared.now c.args.piece c.in-Unfinished.spent c.in-Unfinished.low c.requires.prefix left
