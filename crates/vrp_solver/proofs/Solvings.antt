-- What a search answers that begins with another plan, or by routes.
use Rattle.std.proofs.Common.{◌≡◌, ◌≤◌, Ok, Err, IfOk, Result, List, ℕ, max, subst, arith}
use Rattle.vrp_canonical.specs.Ending.{IfCanonical}
use Rattle.vrp_canonical.specs.declared.canonical.RoutesOutcome.{RoutesOutcome}
use Rattle.vrp_canonical.specs.declared.canonical.RoutesOutcome.TheVariants.{Canonical, Unfinished}
use Rattle.vrp_model.specs.Cheapest.{NoneCheaper, cost_of}
use Rattle.vrp_model.specs.Order.{IsCanonical}
use Rattle.vrp_model.specs.Problem.{Problem}
use Rattle.vrp_model.specs.Route.{PricedPlan}
use Rattle.vrp_model.specs.declared.memory.NoMemory.{NoMemory}
use Rattle.vrp_solver.specs.Inner.Solving.{IsSolved}
use Rattle.vrp_solver.specs.Inner.Pieces.{IsAnswered}
use Rattle.vrp_answer.specs.Answer.{IsAnswer}
use Rattle.vrp_answer.specs.Outcomes.{Search}
use Rattle.vrp_answer.specs.declared.answers.Answer.{Answer}
use Rattle.vrp_answer.specs.declared.answers.Answer.TheVariants.{Proven}
use Rattle.vrp_answer.specs.declared.answers.Solved.{Solved}

pub answered_from : (s t : Search) (cutting : List (List ℕ)) (answer : Answer) → t ≡ record s { start_plan = t.start_plan } → cost_of t.start_plan ≤ cost_of s.start_plan → IsAnswered t cutting answer → IsAnswered s cutting answer
answered_from s t cutting answer same cheaper is = record {
  is_answer = subst (λ (u : Search). IsAnswer u.problem cutting u.budget u.may_stop answer) same is.is_answer;
  no_costlier = omega (arith, is.no_costlier, cheaper);
}

pub solved_from : (s t : Search) (cutting : List (List ℕ)) (solved : Solved) → t ≡ record s { start_plan = t.start_plan } → cost_of t.start_plan ≤ cost_of s.start_plan → IsSolved t cutting solved → IsSolved s cutting solved
solved_from s t cutting solved same cheaper is = record {
  answered = answered_from s t cutting solved.answer same cheaper is.answered;
  bound = subst (λ (u : Search). NoneCheaper u.problem solved.lower_bound) same is.bound;
}

pub all_answered_from : (s t : Search) (cutting : List (List ℕ)) (result : Result Answer NoMemory) → t ≡ record s { start_plan = t.start_plan } → cost_of t.start_plan ≤ cost_of s.start_plan → IfOk result (IsAnswered t cutting) → IfOk result (IsAnswered s cutting)
all_answered_from s t cutting (Ok answer) same cheaper is = answered_from s t cutting answer same cheaper is
all_answered_from s t cutting (Err error) same cheaper is = is

-- a canonical plan by routes costs no more than this, if no canonical plan does
pub canonical_no_costlier : (p : Problem) (most : ℕ) (result : Result RoutesOutcome NoMemory) → ((plan : PricedPlan) → IsCanonical p plan → plan.cost ≤ most) → IfOk result (IfCanonical (IsCanonical p)) → IfOk result (IfCanonical (λ plan. plan.cost ≤ most))
canonical_no_costlier p most (Ok (Canonical plan)) no_costlier is = no_costlier plan is
canonical_no_costlier p most (Ok (Unfinished better lower_bound)) no_costlier is = is
canonical_no_costlier p most (Err error) no_costlier is = is

-- the higher of two bounds on all plans is one
pub higher_bound : (p : Problem) (routes_bound price_bound higher : ℕ) → NoneCheaper p routes_bound → NoneCheaper p price_bound → higher ≡ max routes_bound price_bound → NoneCheaper p higher
higher_bound p routes_bound price_bound higher by_routes by_prices is = λ routes lawful. omega (arith, is, by_routes routes lawful, by_prices routes lawful)

-- a canonical plan that was found by routes answers
pub solved_by_routes : (s : Search) (cutting : List (List ℕ)) (outcome : RoutesOutcome) (plan : PricedPlan) (bound : ℕ) → IfCanonical (IsCanonical s.problem) outcome → IfCanonical (λ plan. plan.cost ≤ cost_of s.start_plan) outcome → NoneCheaper s.problem bound → outcome ≡ Canonical plan → IsSolved s cutting (record { answer = Proven plan; lower_bound = bound })
solved_by_routes s cutting outcome plan bound is no_costlier none_cheaper same = record {
  answered = record {
    is_answer = subst (IfCanonical (IsCanonical s.problem)) same is;
    no_costlier = subst (IfCanonical (λ plan. plan.cost ≤ cost_of s.start_plan)) same no_costlier;
  };
  bound = none_cheaper;
}
