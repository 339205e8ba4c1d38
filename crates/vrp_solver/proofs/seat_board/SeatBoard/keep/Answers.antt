use Rattle.std.proofs.Common.{subst, sym, rules}
use Rattle.std.specs.Option.{ForSome}
use Rattle.vrp_model.specs.Route.{IsPlanOf}
use Rattle.vrp_solver.specs.SeatBoard.{SeatBoardState}
use Rattle.vrp_solver.proofs.seat_board.SeatBoard.keep.Goals as goal

pub offer-requires : goal.offer-requires
offer-requires g c = (c.requires.0, subst (λ (b : SeatBoardState). ForSome b.best (IsPlanOf c.requires.0)) (sym c.self.view_is) c.requires.1, c.requires.2)

pub returns-clause-serves : goal.returns-clause-serves
returns-clause-serves g c = λ p serves plan_of.
    (let kept = c.offer.ensures.serves p (subst (λ (b : SeatBoardState). ForSome b.best (IsPlanOf p)) (sym c.self.view_is) serves) plan_of in
    search (rules, kept))
