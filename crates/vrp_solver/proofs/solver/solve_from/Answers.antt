use Rattle.std.proofs.Common.{◌≤◌, ◌∙◌, ap, length, subst, sym}
use Rattle.std.proofs.lemmas.List.{length-map}
use Rattle.vrp_model.specs.Cheapest.{NoneCheaper, cost_of}
use Rattle.vrp_search_tree.specs.Cutting.{IsCutting}
use Rattle.vrp_answer.specs.Answer.{IsAnswer, known_plan}
use Rattle.vrp_answer.specs.Outcomes.{Search}
use Rattle.vrp_solver.proofs.solver.solve_from.Goals as goal

pub new-shared-requires-clause-tables : goal.new-shared-requires-clause-tables
new-shared-requires-clause-tables g c = c.in_ok-tables.ensures

pub new-shared-requires-clause-start_plan : goal.new-shared-requires-clause-start_plan
new-shared-requires-clause-start_plan g c = c.requires.start

pub new-shared-requires-clause-budget : goal.new-shared-requires-clause-budget
new-shared-requires-clause-budget g c = c.requires.budget

pub solve_shared-solved-requires-after_bounds : goal.solve_shared-solved-requires-after_bounds
solve_shared-solved-requires-after_bounds g c κs within = record {
  is_cutting = subst (λ (s : Search). IsCutting s.problem c.args.cutting) (sym c.new-shared.ensures) c.requires.cutting;
  few = c.requires.few;
  pieces = ap (λ (s : Search). s.pieces) c.new-shared.ensures ∙ sym (length-map c.pieces.result.now _) ∙ ap length c.pieces.ensures.words;
  some_worker = c.requires.some_worker;
  few_workers = c.requires.few_workers;
}

pub returns-clause-answer : goal.returns-clause-answer
returns-clause-answer g c =
    let answer = subst (λ (s : Search). IsAnswer s.problem c.args.cutting s.budget s.may_stop c.in_ok-solved.field-0.answer) c.new-shared.ensures c.in_ok-solved.ensures.answered.is_answer in
    subst (λ gate. IsAnswer c.args.instance.now c.args.cutting c.args.budget (g.G.Gate.may_stop gate) c.in_ok-solved.field-0.answer) c.new-resources.ensures answer

pub returns-clause-no_costlier : goal.returns-clause-no_costlier
returns-clause-no_costlier g c = subst (λ (s : Search). cost_of (known_plan c.in_ok-solved.field-0.answer) ≤ cost_of s.start_plan) c.new-shared.ensures c.in_ok-solved.ensures.answered.no_costlier

pub returns-clause-bound : goal.returns-clause-bound
returns-clause-bound g c = subst (λ (s : Search). NoneCheaper s.problem c.in_ok-solved.field-0.lower_bound) c.new-shared.ensures c.in_ok-solved.ensures.bound
