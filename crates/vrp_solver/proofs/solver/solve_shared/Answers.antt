use Rattle.std.proofs.Common.{◌≤◌, Option, subst, arith}
use Rattle.std.specs.Prelude.{IfSome}
use Rattle.vrp_model.specs.Cheapest.{cost_of}
use Rattle.vrp_answer.specs.Answer.{AnswersAll, known_plan}
use Rattle.vrp_answer.specs.declared.answers.Answer.{Answer}
use Rattle.vrp_solver.proofs.Solvings.{solved_from}
use Rattle.vrp_solver.proofs.solver.solve_shared.Goals as goal

pub returns-in-Some : goal.returns-in-Some
returns-in-Some g c =
    let s = c.args.shared.now in
    record {
      answered = record {
        is_answer = subst (λ (found : Option Answer). IfSome found (AnswersAll s.problem)) c.in-Some.is c.in_ok-answer.ensures.answer c.args.cutting s.budget s.may_stop;
        no_costlier = subst (λ (found : Option Answer). IfSome found (λ answer. cost_of (known_plan answer) ≤ cost_of s.start_plan)) c.in-Some.is c.in_ok-answer.ensures.no_costlier;
      };
      bound = λ routes lawful. omega arith;
    }

pub returns : goal.returns
returns g c =
    solved_from c.args.shared.now c.with_plan-begun.result c.args.cutting c.in_ok-solved.field-0 c.with_plan-begun.ensures.same c.with_plan-begun.ensures.no_costlier c.in_ok-solved.ensures
