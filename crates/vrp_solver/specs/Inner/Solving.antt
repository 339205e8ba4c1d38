-- The answer of a search, with a lower bound.
use Rattle.std.specs.Prelude.{ℕ, List}
use Rattle.vrp_model.specs.Cheapest.{NoneCheaper}
use Rattle.vrp_answer.specs.Outcomes.{Search}
use Rattle.vrp_answer.specs.declared.answers.Solved.{Solved}
use Rattle.vrp_solver.specs.Inner.Pieces.{IsAnswered}

-- an answer of the search, and a lower bound on each feasible plan
pub record IsSolved (s : Search) (cutting : List (List ℕ)) (solved : Solved) : Type 0 where
  pub answered : IsAnswered s cutting solved.answer
  pub bound : NoneCheaper s.problem solved.lower_bound
