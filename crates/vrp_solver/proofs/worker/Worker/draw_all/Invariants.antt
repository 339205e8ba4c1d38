use Rattle.std.specs.Prelude.{is_some}
use Rattle.vrp_solver.specs.Inner.Workers.{HasSearched, IsWorked, WorkerState}
use Rattle.vrp_solver.proofs.worker.Worker.draw_all.Given as goal

abbrev pub invariant-loop : goal.invariant-loop
invariant-loop g l =
    let now : WorkerState = record { drawer = g.D.Drawer.drawer l.self-inside.drawer; board = l.self-inside.board; outcomes = l.self-inside.outcomes.items; refused = is_some l.self-inside.refused } in
    record { worked : IsWorked l.shared l.fn.self now; searched : HasSearched l.shared l.fn.self now }
