-- The requirements for searching all pieces of a cutting, and the answer.
use Rattle.std.specs.Prelude.{◌≡◌, ◌*◌, ◌≤◌, ℕ, List, length}
use Rattle.vrp_model.specs.Cheapest.{cost_of}
use Rattle.vrp_search_tree.specs.Cutting.{IsCutting}
use Rattle.vrp_search_tree.specs.declared.cutting.TheConstants.{MAX_REFINED}
use Rattle.vrp_solver.specs.declared.pieces.TheConstants.{MAX_WORKERS}
use Rattle.vrp_answer.specs.Answer.{IsAnswer, known_plan}
use Rattle.vrp_answer.specs.Outcomes.{Search}
use Rattle.vrp_answer.specs.declared.answers.Answer.{Answer}

-- the pieces are those of a cutting of the problem, and neither pieces nor workers are too many
pub record CanSolve (s : Search) (cutting : List (List ℕ)) (workers : ℕ) : Type 0 where
  pub is_cutting : IsCutting s.problem cutting
  pub few : length cutting ≤ 2 * MAX_REFINED
  pub pieces : s.pieces ≡ length cutting
  pub some_worker : 1 ≤ workers
  pub few_workers : workers ≤ MAX_WORKERS

-- an answer of the search, whose plan costs no more than the start plan
pub record IsAnswered (s : Search) (cutting : List (List ℕ)) (answer : Answer) : Type 0 where
  pub is_answer : IsAnswer s.problem cutting s.budget s.may_stop answer
  pub no_costlier : cost_of (known_plan answer) ≤ cost_of s.start_plan
