use Rattle.std.proofs.Common.{◌∙◌, List, ap}
use Rattle.std.specs.Prelude.{is_some}
use Rattle.vrp_answer.specs.declared.outcome.PieceOutcome.{PieceOutcome}
use Rattle.vrp_solver.specs.Inner.Workers.{WorkerState}
use Rattle.vrp_solver.proofs.worker.Worker.makes_room.Goals as goal

pub returns : goal.returns
returns g c =
    let inside = c.self.inside in
    let made : List PieceOutcome → WorkerState = λ os. record { drawer = g.D.Drawer.drawer inside.drawer; board = inside.board; outcomes = os; refused = is_some inside.refused } in
    ap made c.reserve.ensures.items ∙ c.self.view_is
