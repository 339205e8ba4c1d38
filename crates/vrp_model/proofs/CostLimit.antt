-- What a feasible plan costs at most.
use Rattle.std.proofs.Common.{ℕ, ◌+◌, ◌*◌, ◌≤◌, ◌<◌, List, [], ◌∷◌, length, arith}
use Rattle.vrp_model.specs.Problem.{IsProblem, Problem, place_count}
use Rattle.vrp_model.specs.Route.{IsLawful, cost_along, plan_cost}
use Rattle.vrp_model.specs.declared.limits.TheConstants.{MAX_WEIGHT, NO_COST}
use Rattle.vrp_model.proofs.TurnedRoutes.{word_for_plan}
use Rattle.vrp_model.proofs.WordReading.{word_is_short}

-- this many arcs cost at most this many times the greatest weight
cost_at_most : (p : Problem) (at : ℕ) (word : List ℕ) → IsProblem p → cost_along p at word ≤ MAX_WEIGHT * length word
cost_at_most p at [] problem = omega arith
cost_at_most p at (symbol ∷ word) problem = omega (arith, problem.small_weights (at * place_count p + symbol), cost_at_most p symbol word problem)

-- no feasible plan costs as much as none
pub below_no_cost : (p : Problem) (routes : List (List ℕ)) → IsProblem p → IsLawful p routes → plan_cost p routes < NO_COST
below_no_cost p routes problem lawful =
    let (word, lawful_word, same, no_later) = word_for_plan p routes lawful in
    omega (arith, same, cost_at_most p 0 word problem, word_is_short p word problem lawful_word)
