-- The last prices of column generation.
use Rattle.std.specs.Prelude.{◌≡◌, ◌⊎◌, ◌≤◌, ℕ, Option, List}
use Rattle.std.specs.Option.{ForSome, IsSomeAnd}
use Rattle.vrp_model.specs.Problem.{Problem}
use Rattle.vrp_model.specs.Route.{plan_cost}
use Rattle.vrp_priced_routes.specs.Arcs.{ArcsOf}
use Rattle.vrp_routes.specs.Range.{IsInRange}

-- they list the routes of this problem for each limit up to this one
pub record LastPricesOf : Type 0 where
  pub problem : Problem
  pub limit : ℕ

-- the arcs of one leaf, or of two, are for this problem and this limit, and each plan within the limit is in one of them
pub record HaveAllPlans (problem : Problem) (limit : ℕ) (first : ArcsOf) (second : Option ArcsOf) : Type 0 where
  pub problem_is : first.problem ≡ problem
  pub limit_is : first.range.limit ≡ limit
  pub second_problem : ForSome second (λ arcs. arcs.problem ≡ problem)
  pub second_limit : ForSome second (λ arcs. arcs.range.limit ≡ limit)
  pub plans : (p : Problem) (routes : List (List ℕ)) → plan_cost p routes ≤ limit
      → IsInRange p first.range routes ⊎ IsSomeAnd second (λ arcs. IsInRange p arcs.range routes)
