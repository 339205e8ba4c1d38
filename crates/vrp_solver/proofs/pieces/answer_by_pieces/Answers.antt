use Rattle.std.proofs.Common.{List, ℕ, subst, sym}
use Rattle.std.specs.Prelude.{IfOk}
use Rattle.vrp_search_tree.specs.Cutting.{IsCutting}
use Rattle.vrp_answer.specs.Answer.{IsAnswer}
use Rattle.vrp_solver.proofs.Answered.{all_answered}
use Rattle.vrp_solver.proofs.pieces.answer_by_pieces.Goals as goal

pub solve_pile-requires-clause-cutting : goal.solve_pile-requires-clause-cutting
solve_pile-requires-clause-cutting g c κs within =
    subst (IsCutting c.args.shared.now.problem) (sym c.in_ok-owner.ensures.pieces) c.requires.is_cutting

pub returns : goal.returns
returns g c =
    let s = c.args.shared.now in
    let answer = c.solve_pile.result in
    all_answered s c.args.cutting answer
    (subst (λ (words : List (List ℕ)). IfOk answer (IsAnswer s.problem words s.budget s.may_stop)) c.in_ok-owner.ensures.pieces c.solve_pile.ensures.answer)
    c.solve_pile.ensures.no_costlier
