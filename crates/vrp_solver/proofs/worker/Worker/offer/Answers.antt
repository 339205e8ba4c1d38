use Rattle.std.proofs.Common.{ap, refl, subst, sym}
use Rattle.std.specs.Option.{option_map}
use Rattle.std.specs.Prelude.{is_some}
use Rattle.vrp_solver.specs.Inner.Workers.{CanWork, HasSearched, IsWorked, WorkerState}
use Rattle.vrp_solver.proofs.Floors.{later_itself}
use Rattle.vrp_solver.proofs.Works.{none_searched, not_worked}
use Rattle.vrp_solver.proofs.worker.Worker.offer.Goals as goal

pub offer-requires : goal.offer-requires
offer-requires g c = (c.args.shared.now.problem, (subst (CanWork c.args.shared.now) (sym c.self.view_is) c.requires.can).serves, c.requires.plan c.in-Some.plan.now (ap (option_map (λ plan. plan.now)) c.in-Some.is))

pub returns-in-Some-clause-worked : goal.returns-in-Some-clause-worked
returns-in-Some-clause-worked g c =
    let s = c.args.shared.now in
    let can = subst (CanWork s) (sym c.self.view_is) c.requires.can in
    let plan_of = c.requires.plan c.in-Some.plan.now (ap (option_map (λ plan. plan.now)) c.in-Some.is) in
    let old : WorkerState = record { drawer = g.D.Drawer.drawer c.self.inside.drawer; board = c.self.inside.board; outcomes = c.self.inside.outcomes.items; refused = is_some c.self.inside.refused } in
    let new : WorkerState = record { drawer = g.D.Drawer.drawer c.self.inside.drawer; board = c.offer.new.self; outcomes = c.self.inside.outcomes.items; refused = is_some c.self.inside.refused } in
    let offered = c.offer.ensures in
    let worked : IsWorked s old new = record { pile = refl; parts = refl; put = refl; serves = offered.serves s.problem can.serves plan_of; later = offered.keeps old.board (later_itself old.board); falls = offered.falls } in
    subst (λ (w : WorkerState). IsWorked s w new) c.self.view_is worked

pub returns-in-Some-clause-searched : goal.returns-in-Some-clause-searched
returns-in-Some-clause-searched g c =
    let s = c.args.shared.now in
    let old : WorkerState = record { drawer = g.D.Drawer.drawer c.self.inside.drawer; board = c.self.inside.board; outcomes = c.self.inside.outcomes.items; refused = is_some c.self.inside.refused } in
    let new : WorkerState = record { drawer = g.D.Drawer.drawer c.self.inside.drawer; board = c.offer.new.self; outcomes = c.self.inside.outcomes.items; refused = is_some c.self.inside.refused } in
    subst (λ (w : WorkerState). HasSearched s w new) c.self.view_is (none_searched s old new refl refl)

pub returns-in-None-clause-worked : goal.returns-in-None-clause-worked
returns-in-None-clause-worked g c = not_worked c.args.shared.now c.args.self.now c.requires.can

pub returns-in-None-clause-searched : goal.returns-in-None-clause-searched
returns-in-None-clause-searched g c = none_searched c.args.shared.now c.args.self.now c.args.self.now refl refl
