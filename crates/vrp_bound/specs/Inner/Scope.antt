-- The customers of tables.
use Rattle.std.specs.Prelude.{ℕ, ◌≤◌, ◌<◌, List}
use Rattle.std.specs.List.{All}
use Rattle.vrp_model.specs.Problem.{IsProblem, Problem, place_count}
use Rattle.vrp_model.specs.Route.{load_of}
use Rattle.vrp_bound.specs.Tables.{AllDemand}

pub record IsScope (p : Problem) (among : List ℕ) : Type 0 where
  pub problem : IsProblem p
  pub places : All (λ customer. customer < place_count p) among
  pub demands : AllDemand p among
  pub light : load_of p among ≤ 200000000
