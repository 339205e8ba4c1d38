-- The statement that no feasible plan costs less.
use Rattle.std.specs.Prelude.{ℕ, ◌≤◌, Option, unwrap_or, List}
use Rattle.std.specs.Option.{option_map}
use Rattle.vrp_model.specs.declared.limits.TheConstants.{NO_COST}
use Rattle.vrp_model.specs.Problem.{Problem}
use Rattle.vrp_model.specs.Route.{IsLawful, PricedPlan, plan_cost}

-- no feasible plan costs less
abbrev pub NoneCheaper : Problem → ℕ → Type 0
NoneCheaper p cost = (routes : List (List ℕ)) → IsLawful p routes → cost ≤ plan_cost p routes

-- no plan is feasible
abbrev pub HasNoPlan : Problem → Type 0
HasNoPlan p = (routes : List (List ℕ)) → IsLawful p routes → ⊥

-- the cost of a plan, or `NO_COST`, more than any plan costs, if there is none
abbrev pub cost_of : Option PricedPlan → ℕ
cost_of found = unwrap_or (option_map (λ plan. plan.cost) found) NO_COST
