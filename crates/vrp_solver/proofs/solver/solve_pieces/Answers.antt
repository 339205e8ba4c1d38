use Rattle.vrp_solver.proofs.Solvings.{all_answered_from}
use Rattle.vrp_solver.proofs.solver.solve_pieces.Goals as goal

pub returns : goal.returns
returns g c =
    all_answered_from c.args.shared.now c.with_plan-begun.result c.args.cutting c.answer_by_pieces-answer.result c.with_plan-begun.ensures.same c.with_plan-begun.ensures.no_costlier c.answer_by_pieces-answer.ensures
