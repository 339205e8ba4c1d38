-- The least weight of an arc into a place, used by the bounds on what is still to pay.
use Rattle.std.specs.Prelude.{◌≡◌, ◌≢◌, ℕ, ◌≤◌, ◌<◌}
use Rattle.vrp_model.specs.Problem.{Problem, place_count, weight_of}

-- the least weight of an arc into this place from another one
pub record IsLeastIn (p : Problem) (to weight : ℕ) : Type 0 where
  pub met : (from : ℕ) × (from < place_count p) × (from ≢ to) × (weight ≡ weight_of p from to)
  pub least : (from : ℕ) → from < place_count p → from ≢ to → weight ≤ weight_of p from to

-- the least weight of an arc from a customer into the depot; 0 if there is no customer
pub record IsLeastHome (p : Problem) (weight : ℕ) : Type 0 where
  pub some : 1 < place_count p → IsLeastIn p 0 weight
  pub none : place_count p ≡ 1 → weight ≡ 0
