-- The fleet of an instance: what each customer demands, and how many trucks may be sent out.
use Rattle.std.specs.Prelude.{ℕ, ◌≤◌, List, length}
use Rattle.vrp_model.specs.Problem.{HasTrucks, Problem}
use Rattle.vrp_model.specs.Route.{IsLawful}

-- there are trucks for so many routes and for fewer, and no lawful plan has more
pub record IsFleet (p : Problem) (trucks : ℕ) : Type 0 where
  pub has : (routes : ℕ) → routes ≤ trucks → HasTrucks p routes
  pub most : (routes : List (List ℕ)) → IsLawful p routes → length routes ≤ trucks
