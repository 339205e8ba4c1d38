use Rattle.vrp_solver.proofs.Floors.{offered_falls, offered_taken}
use Rattle.vrp_solver.proofs.seat_board.SeatBoard.tell.Goals as goal

pub returns-clause-falls : goal.returns-clause-falls
returns-clause-falls g c = rw (← c.self.view_is) (offered_falls c.self.inside.caller.known c.offer.new.caller.known c.args.plan.now.cost c.in_ok-offer.field-0.before c.in_ok-offer.ensures.offered)

pub returns-clause-taken : goal.returns-clause-taken
returns-clause-taken g c = offered_taken c.self.inside.caller.known c.offer.new.caller.known c.args.plan.now.cost c.in_ok-offer.field-0.before c.in_ok-offer.ensures.offered
