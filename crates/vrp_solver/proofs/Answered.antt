-- The two parts of an answer, put together.
use Rattle.std.proofs.Common.{◌≤◌, Ok, Err, IfOk, Result, List, ℕ}
use Rattle.vrp_model.specs.Cheapest.{cost_of}
use Rattle.vrp_model.specs.declared.memory.NoMemory.{NoMemory}
use Rattle.vrp_answer.specs.Answer.{IsAnswer, known_plan}
use Rattle.vrp_answer.specs.Outcomes.{Search}
use Rattle.vrp_answer.specs.declared.answers.Answer.{Answer}
use Rattle.vrp_solver.specs.Inner.Pieces.{IsAnswered}

pub all_answered : (s : Search) (cutting : List (List ℕ)) (result : Result Answer NoMemory) → IfOk result (IsAnswer s.problem cutting s.budget s.may_stop) → IfOk result (λ answer. cost_of (known_plan answer) ≤ cost_of s.start_plan) → IfOk result (IsAnswered s cutting)
all_answered s cutting (Ok answer) is cheap = record { is_answer = is; no_costlier = cheap }
all_answered s cutting (Err error) is cheap = is
