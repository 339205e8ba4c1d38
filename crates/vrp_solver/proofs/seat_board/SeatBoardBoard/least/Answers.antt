use Rattle.std.proofs.Common.{subst, sym}
use Rattle.std.specs.Option.{ForSome}
use Rattle.vrp_model.specs.Route.{IsPlanOf}
use Rattle.vrp_solver.specs.SeatBoard.{SeatBoardState}
use Rattle.vrp_solver.proofs.Floors.{seen_falls}
use Rattle.vrp_solver.proofs.seat_board.SeatBoardBoard.least.Goals as goal

pub returns-clause-serves : goal.returns-clause-serves
returns-clause-serves g c = λ p serves. subst (λ (b : SeatBoardState). ForSome b.best (IsPlanOf p)) (sym c.self.view_is) serves

pub returns-clause-falls : goal.returns-clause-falls
returns-clause-falls g c = rw (← c.self.view_is) (seen_falls c.self.inside.caller.known c.least.new.caller.known c.least.result c.least.ensures.seen)
