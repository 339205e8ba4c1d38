use Rattle.std.proofs.Common.{◌∙◌, List, ap, subst, sym}
use Rattle.std.specs.Prelude.{OnOk, is_some}
use Rattle.vrp_answer.specs.declared.outcome.PieceOutcome.{PieceOutcome}
use Rattle.vrp_solver.specs.Inner.Workers.{CanWork, HasSearched, IsWorked, WorkerState}
use Rattle.vrp_solver.proofs.Works.{not_worked}
use Rattle.vrp_solver.proofs.worker.Worker.work.Goals as goal

pub returns-in_err-reserve-clause-worked : goal.returns-in_err-reserve-clause-worked
returns-in_err-reserve-clause-worked g c =
    let s = c.args.shared.now in
    let inside = c.self.inside in
    let old : WorkerState = record { drawer = g.D.Drawer.drawer inside.drawer; board = inside.board; outcomes = inside.outcomes.items; refused = is_some inside.refused } in
    let made : List PieceOutcome → WorkerState = λ os. record { drawer = g.D.Drawer.drawer inside.drawer; board = inside.board; outcomes = os; refused = is_some inside.refused } in
    subst (λ (w : WorkerState). IsWorked s w (made c.reserve.new.self.items)) c.self.view_is (subst (IsWorked s old) (sym (ap made c.reserve.ensures.items)) (not_worked s old (subst (CanWork s) (sym c.self.view_is) c.requires)))

pub returns-clause-worked : goal.returns-clause-worked
returns-clause-worked g c =
    let inside = c.self.inside in
    let made : List PieceOutcome → WorkerState = λ os. record { drawer = g.D.Drawer.drawer inside.drawer; board = inside.board; outcomes = os; refused = is_some inside.refused } in
    let same = ap made c.reserve.ensures.items ∙ c.self.view_is in
    subst (λ (w : WorkerState). IsWorked c.args.shared.now w c.draw_all.new.self) same c.draw_all.ensures.worked

pub returns-clause-searched : goal.returns-clause-searched
returns-clause-searched g c =
    let inside = c.self.inside in
    let made : List PieceOutcome → WorkerState = λ os. record { drawer = g.D.Drawer.drawer inside.drawer; board = inside.board; outcomes = os; refused = is_some inside.refused } in
    let same = ap made c.reserve.ensures.items ∙ c.self.view_is in
    subst (λ (w : WorkerState). OnOk c.draw_all.result (HasSearched c.args.shared.now w c.draw_all.new.self)) same c.draw_all.ensures.searched
